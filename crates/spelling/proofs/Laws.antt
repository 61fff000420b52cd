-- Laws of spellings.
pub mod Spelling
