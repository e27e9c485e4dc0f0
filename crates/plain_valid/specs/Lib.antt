pub mod Long
pub mod Inputs
pub mod Declared
pub mod Function
