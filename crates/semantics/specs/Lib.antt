-- What sites, conditions, sheets and classes mean. A reader has to believe these six files and the tests of crate `finite`.
pub mod Form
pub mod Holds
pub mod Table
pub mod Edit
pub mod Block
pub mod Bisimulation
pub mod Monotone
pub mod FixedPoint
pub mod Eval
pub mod Agree
pub mod Refine
