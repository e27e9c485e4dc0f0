pub mod Takes
pub mod Asked
pub mod Rows
