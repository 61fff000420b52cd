-- The site's bytes: where its parts stand, what they say, and which are refused.
pub mod Layout
pub mod Site
pub mod Refusal
pub mod Inside
-- links and ways
pub mod Ways
