pub mod Gotos
pub mod Counts
