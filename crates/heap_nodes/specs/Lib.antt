pub mod Owners
pub mod Rows
