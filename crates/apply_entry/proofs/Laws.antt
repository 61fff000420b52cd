-- Laws of applying for every input, by topic.
pub mod Refusal
pub mod Applying
