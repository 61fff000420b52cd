-- Changes of a site at slots, of which the edits are made.
pub mod Change
