-- Sets at their offsets in a buffer, and what a node makes of its children's sets.
pub mod Offsets
pub mod Nodes
