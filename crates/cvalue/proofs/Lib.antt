pub mod Words
pub mod Right
pub mod Nodes
pub mod Ones
