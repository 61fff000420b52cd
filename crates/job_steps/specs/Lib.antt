-- What the steps of a job answer and leave.
pub mod Steps
