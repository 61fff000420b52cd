-- Laws of the evaluator, by topic: kinds, rounds by the kind, what each call leaves, the rounds of a loop, the answer.
pub mod Kinds
pub mod Counts
pub mod Counting
pub mod Memo
pub mod Rounds
pub mod Answer
pub mod Same
