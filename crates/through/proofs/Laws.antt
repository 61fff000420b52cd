-- The theorems, by topic: an edit's own condition; a condition behind a table; the table of a sheet; listing that table makes no round.
pub mod Own
pub mod Behind
pub mod Through
pub mod Loopless
