-- The nodes of an edit's own condition.
pub mod Condition
pub mod Nodes
-- what is left when it is put behind a table
pub mod Behind
