-- Laws of one edit, by topic.
-- a block has a node
pub mod Sizes
-- the first node
pub mod Fits
-- images and starts; bytes written; blocks emitted
pub mod State
pub mod Copied
pub mod Numbered
pub mod Puts
pub mod Emitted
-- emitting goes down
pub mod Deep
