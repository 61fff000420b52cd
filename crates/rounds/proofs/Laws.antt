-- The theorems, by topic.
-- the rounds computed, and of a node from its children's
pub mod Count
pub mod Nodes
-- the sums that a loop in code keeps
pub mod Loops
-- the computed number is the one that listing makes
pub mod Exact
-- tables without a loop
pub mod Loopless
-- worked examples
pub mod Examples
