-- Which inputs are refused: the items in their order.
pub mod Refusal
-- the numbers in its answer
pub mod Answer
-- what listing leaves in its buffers
pub mod Listing
-- what it promises
pub mod Answered
