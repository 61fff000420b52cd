-- Pieces of jobs, as the test programs read them.
pub mod Room
