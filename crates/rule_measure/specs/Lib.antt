pub mod Lowers
pub mod Measure
pub mod Total
