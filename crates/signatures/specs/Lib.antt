-- The members of classes.
pub mod Members
