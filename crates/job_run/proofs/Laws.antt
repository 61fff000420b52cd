-- Laws, by topic.
pub mod Refusal
pub mod Job
