-- Item 14.
pub mod Refusal
-- the numbers and values of the answer
pub mod Answer
-- what is left in the buffer
pub mod Rewriting
-- how far the passes of a sheet have come, and the answer
pub mod State
