-- How many rounds listing a condition makes.
pub mod Makes
pub mod Count
