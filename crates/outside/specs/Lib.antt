pub mod Told
pub mod Causes
pub mod Calls
pub mod Files
pub mod Forms
pub mod Reading
pub mod Writing
