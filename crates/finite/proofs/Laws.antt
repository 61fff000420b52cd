-- Laws of tests, by topic.
-- Booleans; numbers compared; any, all and the count below a bound; all as the dual of any; tests and what they say
pub mod Bools
pub mod Below
pub mod Count
pub mod Dual
pub mod Reflect
-- loops over 0, 1, ..: tests that all pass, and the lowest that passes; the last arm of a match on numbers
pub mod Loops
pub mod First
pub mod Arms
-- zeros
pub mod Zeros
-- binary digits
pub mod Bits
pub mod Weights
