-- what is proved of rows
pub mod Laws
