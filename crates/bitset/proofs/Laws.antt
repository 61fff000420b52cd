-- Laws of sets of slots, by topic.
pub mod Bytes
pub mod Words
pub mod Test
pub mod Slot
pub mod Count
pub mod Part
pub mod Sets
pub mod Numbers
