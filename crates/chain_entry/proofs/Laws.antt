-- Laws of the chain for every input, by topic.
pub mod Refusal
pub mod Chaining
