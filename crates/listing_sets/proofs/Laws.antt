-- Laws of sets at their offsets and of nodes' sets, by topic.
pub mod Offsets
pub mod Nodes
