-- The job file: its layout, items 2 and 18, and its pieces.
pub mod File
pub mod Refusal
pub mod Pieces
-- what the trailer is read as
pub mod Cuts
