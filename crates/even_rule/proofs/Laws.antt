-- Laws of the pass, by topic.
pub mod Words
pub mod Shows
pub mod Pass
pub mod Check
pub mod Answer
pub mod Judged
