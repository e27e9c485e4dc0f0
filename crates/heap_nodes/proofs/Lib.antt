pub mod Found
pub mod Steps
pub mod Values
pub mod Distinct
pub mod Places
