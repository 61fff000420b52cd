-- Laws of the slots of a set from which a way leads into another.
pub mod Gather
