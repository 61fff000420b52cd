-- Laws of rewriting for every input, by topic.
pub mod Refusal
pub mod Rewriting
