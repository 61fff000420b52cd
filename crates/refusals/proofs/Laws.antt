-- Laws of the refusals, by topic.
pub mod Items
