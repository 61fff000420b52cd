-- Laws of the exports, by topic.
pub mod Length
