-- Laws of rows, by topic.
pub mod Alike
