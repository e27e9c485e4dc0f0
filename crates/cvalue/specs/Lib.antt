pub mod Held
pub mod Nodes
