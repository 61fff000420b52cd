-- Laws of blocks, by topic.
pub mod Write
pub mod Rows
