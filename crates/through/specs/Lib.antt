-- The condition for going through. A reader has to believe the first file beside those of `semantics`.
pub mod Through
