-- Refusals and the outcome of a check.
pub mod Verdict
-- how a refusal is printed
pub mod Text
