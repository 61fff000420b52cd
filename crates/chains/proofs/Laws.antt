-- Laws of chains, by topic.
-- chains put together and cut
pub mod Chains
-- the slots within so many steps of the goal, round by round
pub mod Layers
-- the chain to give: where there is one, that it is only one, how long it is, how it is found
pub mod Shortest
-- the slots that can be reached
pub mod Reached
-- the slots exactly so many steps away, and the search from either end
pub mod Directed
-- the condition that says whether there is a chain, as a tree and as a table of any length
pub mod Listed
pub mod Longer
-- what the code's loops go by
pub mod Loops
