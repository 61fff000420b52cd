-- The nodes of blocks: fields, the steps of rows, and nodes in the buffer of a rewritten table.
pub mod Node
pub mod Steps
pub mod Write
