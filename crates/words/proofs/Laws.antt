-- Laws of words and their bytes, by topic.
pub mod Bytes
pub mod Eight
pub mod Bits
pub mod Lowest
pub mod Library
