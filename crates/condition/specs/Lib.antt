-- The node table of a condition: its bytes, and the items that refuse it.
pub mod Bytes
pub mod Limits
pub mod Refusal
