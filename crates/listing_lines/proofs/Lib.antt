pub mod Cutting
pub mod Digits
pub mod Bytes
pub mod Numbers
