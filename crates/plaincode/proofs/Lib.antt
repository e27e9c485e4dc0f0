pub mod Last
pub mod Walks
pub mod Whole
