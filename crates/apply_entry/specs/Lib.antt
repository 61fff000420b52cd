-- Which inputs are refused: the items in their order.
pub mod Refusal
-- what applying leaves in its buffer
pub mod Applying
-- what its inner function promises
pub mod Answered
