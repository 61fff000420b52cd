-- The rows are as said.
pub mod Said
