-- what is proved of the rows
pub mod Laws
