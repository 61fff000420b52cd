-- Laws of the signatures, by topic.
pub mod Seen
