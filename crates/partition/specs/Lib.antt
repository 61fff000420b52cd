-- Partitions of the slots, and rows of bits.
pub mod Rows
pub mod Gains
pub mod Partition
