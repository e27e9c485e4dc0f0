pub mod Keeps
pub mod Memories
pub mod States
pub mod Worked
