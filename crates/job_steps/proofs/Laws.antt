-- Laws of a job's steps.
pub mod Steps
