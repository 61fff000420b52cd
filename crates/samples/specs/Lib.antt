-- Small examples worked out by hand: rows of one table, and the theorem that each says what it should.
pub mod Site
pub mod Rows
pub mod Said
pub mod Through
