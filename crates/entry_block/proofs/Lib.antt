pub mod Rows
pub mod Turned
pub mod Moved
pub mod Shows
pub mod Keeps
