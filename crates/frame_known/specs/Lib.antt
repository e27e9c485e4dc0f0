pub mod Slots
pub mod Rows
pub mod Steps
pub mod Meeting
pub mod Entering
pub mod Settling
pub mod Passing
pub mod Known
