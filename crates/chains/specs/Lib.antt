-- Chains, the one to give, and the slots that can be reached.
pub mod Chain
-- their bytes, and the condition that says whether there is a chain
pub mod Given
pub mod Layers
pub mod Reached
pub mod Shortest
pub mod Directed
pub mod Loops
