pub mod Value
pub mod Bytes
