-- The free variables of each node of a condition's table.
pub mod Free
-- how inputs are judged with the check
pub mod Judged
-- how the pass keeps them
pub mod Masks
