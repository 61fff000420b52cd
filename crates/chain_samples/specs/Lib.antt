-- The rows.
pub mod Rows
-- what they say
pub mod Said
