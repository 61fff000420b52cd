-- The demands, proved.
pub mod Accepted
pub mod Demand1
pub mod Demands
pub mod Early
pub mod Through
pub mod Job
pub mod Same
pub mod Rounds
pub mod Chain
pub mod Both
pub mod Editions
