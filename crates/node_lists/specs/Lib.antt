pub mod Chains
pub mod ListArena
pub mod Nodes
pub mod Edits
pub mod Families
pub mod Walks
