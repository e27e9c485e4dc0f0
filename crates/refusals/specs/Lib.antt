pub mod Refused
pub mod Good
pub mod Message
