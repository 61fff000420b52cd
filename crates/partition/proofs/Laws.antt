-- Laws of partitions and of rows, by topic.
pub mod Gains
pub mod Partitions
pub mod Rows
pub mod Rounds
pub mod Between
