pub mod Placing
pub mod Ids
pub mod Meeting
pub mod Only
