-- Laws of own conditions.
pub mod Nodes
