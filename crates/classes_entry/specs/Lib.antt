-- Which inputs are refused: the items in their order.
pub mod Refusal
-- the numbers and values of its answer
pub mod Answer
-- what numbering leaves in its buffer
pub mod Classing
-- what its inner function promises
pub mod Answered
