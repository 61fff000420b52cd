-- Laws of job files, by topic.
pub mod Verdict
pub mod Pieces
pub mod Reader
