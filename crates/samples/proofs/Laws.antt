-- How the rows are computed, and the theorems.
pub mod Site
pub mod Quick
pub mod Pass
pub mod Said
pub mod Through
