pub mod Digits
pub mod Named
pub mod Bytes
pub mod Formed
pub mod Good
pub mod Kept
pub mod Whole
