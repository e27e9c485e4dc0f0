pub mod Exact
pub mod Four
pub mod Ending
