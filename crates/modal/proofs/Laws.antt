-- Laws of diamonds and boxes on sets, by topic.
pub mod Gather
pub mod Modal
