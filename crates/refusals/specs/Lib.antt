-- Items 1, 15, 16 and 17. What is proved of all items stands in proofs/Laws.
pub mod Refusal
