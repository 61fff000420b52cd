-- Sets of slots as bytes.
pub mod Set
-- and as words
pub mod Words
-- what a copy rests on
pub mod Stored
-- and what is left of one
pub mod Numbers
