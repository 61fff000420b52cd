-- The sheet's bytes: its edits, and items 11 and 12.
pub mod Bytes
pub mod Refusal
