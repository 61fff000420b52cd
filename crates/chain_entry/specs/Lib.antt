-- Which inputs are refused: the items in their order.
pub mod Refusal
-- the numbers and values of its answer
pub mod Answer
-- what it leaves in its buffers
pub mod Chaining
-- what its inner functions promise
pub mod Answered
