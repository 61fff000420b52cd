-- what each entry point returns, in numbers
pub mod Returned
