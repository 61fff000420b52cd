-- Laws of class numbers for every input, by topic.
pub mod Refusal
pub mod Classing
