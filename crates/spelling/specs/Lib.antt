-- Blocks as rows, and the row of a node's block.
pub mod Rows
pub mod Spelling
