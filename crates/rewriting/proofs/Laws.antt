-- Laws of rewriting and of the condition for going through, by topic.
-- a table never gets shorter; sheets that double it
pub mod Grow
pub mod Double
-- buffers; the sheet
pub mod Buffers
pub mod Passes
-- the table that is made is accepted
pub mod Accepted
