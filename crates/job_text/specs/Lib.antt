-- The print of a job.
pub mod Text
-- what it is to write text into a buffer
pub mod Put
