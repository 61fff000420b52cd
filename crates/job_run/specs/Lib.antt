-- The six buffers that a caller lends; which pieces are refused: the items in their order.
pub mod Buffers
pub mod Refusal
-- the numbers and values of the answer
pub mod Answer
-- what a job on three pieces leaves in its buffers
pub mod Job
-- what it and its parts answer
pub mod Steps
