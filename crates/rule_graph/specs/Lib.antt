pub mod Found
pub mod Graph
pub mod Holds
pub mod Sees
