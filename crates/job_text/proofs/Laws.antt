-- Laws of text, by topic.
pub mod Decimal
pub mod Hex
pub mod Lines
-- the same in a buffer
pub mod Put
pub mod PutHex
pub mod PutLines
