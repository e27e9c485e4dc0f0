pub mod Addresses
pub mod Divisions
pub mod Means
pub mod Operations
pub mod Parts
