-- What listing answers.
pub mod Listed
-- what it promises its callers
pub mod Limited
-- how rounds are counted
pub mod Counting
-- what the evaluator keeps
pub mod State
