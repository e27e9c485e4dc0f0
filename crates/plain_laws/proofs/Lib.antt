pub mod Agrees
pub mod Exits
pub mod Follows
pub mod Keeps
