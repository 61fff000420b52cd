-- Laws of tables as bytes, by topic.
pub mod Bytes
pub mod Limits
pub mod Fits
pub mod Verdict
