mod Flags
mod Collected
mod Sorted
pub mod Suiting
pub mod Fitting
pub mod Declared
