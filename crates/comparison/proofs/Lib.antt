pub mod Prefixes
pub mod Never
