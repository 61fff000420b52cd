-- A sheet applied to a site, and item 13.
pub mod Stuck
pub mod Refusal
pub mod Applies
