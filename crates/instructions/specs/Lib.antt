pub mod Relative
pub mod Standing
