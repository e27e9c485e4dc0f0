pub mod Slots
pub mod Edges
pub mod Steps
pub mod Marks
pub mod Blocks
pub mod Answer
