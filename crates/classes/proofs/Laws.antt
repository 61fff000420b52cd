-- Laws of class numbers, by topic.
pub mod Features
pub mod Different
pub mod Refined
