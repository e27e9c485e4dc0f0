pub mod Limits
pub mod Signed
pub mod Machine
pub mod Operations
pub mod Division
pub mod Words
