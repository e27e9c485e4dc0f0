pub mod Counted
pub mod Wrapping
pub mod Fits
