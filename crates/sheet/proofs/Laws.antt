-- Laws of sheets as bytes, by topic.
pub mod Read
pub mod Fits
pub mod Accepted
