pub mod Each
pub mod Obeys
pub mod Stands
pub mod Spots
pub mod Flowing
pub mod Accessed
pub mod Whole
