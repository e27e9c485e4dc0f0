pub mod Graphs
pub mod Kept
pub mod Sizes
pub mod Values
