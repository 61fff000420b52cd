-- Laws of the changes, by topic.
pub mod Cases
pub mod Areas
pub mod Bytes
pub mod Loops
pub mod Rows
