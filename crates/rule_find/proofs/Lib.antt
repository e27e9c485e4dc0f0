pub mod Families
pub mod Lefts
pub mod Places
pub mod Turning
