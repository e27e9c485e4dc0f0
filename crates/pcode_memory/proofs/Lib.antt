pub mod Frames
pub mod Memory
pub mod Acting
mod Worked
