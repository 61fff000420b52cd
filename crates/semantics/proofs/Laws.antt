-- The theorems, by topic.
-- tables: ways and kinds by their numbers, the tree of a node from its children's trees, blocks written as nodes
pub mod Ways
pub mod TreeAt
pub mod Emit
-- one condition on one site: growth in its variables, fixed points by iteration, the set computed, the global modality
pub mod Monotone
pub mod FixedPoint
pub mod Eval
pub mod Agree
pub mod Everywhere
-- edits
pub mod Edits
-- rewriting
pub mod Steps
pub mod Image
pub mod Rewrite
-- a block behind a table
pub mod Append
-- classes
pub mod Refine
pub mod Invariance
pub mod Describe
pub mod Classes
-- the demands, for models and tables
pub mod Demands
