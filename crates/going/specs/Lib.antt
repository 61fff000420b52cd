-- When an edit goes through.
pub mod Joins
