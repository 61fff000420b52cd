-- Which inputs are refused: the items in their order.
pub mod Refusal
-- what its inner function promises
pub mod Answered
