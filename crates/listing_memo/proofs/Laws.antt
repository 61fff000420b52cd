-- Laws of the kept sets.
pub mod Memo
