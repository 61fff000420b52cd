-- Laws of listing for every input, by topic.
pub mod Refusal
pub mod Listing
