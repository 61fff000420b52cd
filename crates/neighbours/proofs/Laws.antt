-- Laws of the neighbours, by topic.
pub mod Steps
