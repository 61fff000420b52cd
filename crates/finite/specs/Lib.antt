-- Tests of numbers, and of all numbers below a bound.
pub mod Tests
-- numbers that are bytes
pub mod Bytes
