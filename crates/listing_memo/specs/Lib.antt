-- The sets that the evaluator keeps.
pub mod Memo
