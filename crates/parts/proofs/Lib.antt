pub mod Nodes
pub mod Values
pub mod Parts
pub mod Ends
pub mod Shapes
pub mod Visited
