-- demand 1, on each entry point
pub mod Demand1
-- demands 2 and 3, on the entry points together
pub mod Demands
-- the demand on the condition for going through
pub mod Through
-- the demands on a whole job
pub mod Job
-- the demands on the limit
pub mod Rounds
-- the demand on the chain
pub mod Chain
-- the demands on the edition
pub mod Editions
