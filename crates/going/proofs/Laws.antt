-- Laws of going through, and of operands in range.
pub mod Ranges
pub mod Goes
