pub mod Forms
pub mod Faults
pub mod Meaning
pub mod Reader
pub mod Lies
