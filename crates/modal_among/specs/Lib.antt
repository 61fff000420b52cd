-- The slots of a set from which a way leads into another set.
pub mod Among
