pub mod Collected
pub mod Callees
pub mod Function
pub mod Suits
pub mod Fitting
