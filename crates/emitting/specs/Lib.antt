-- How far rewriting through one edit has come.
pub mod State
