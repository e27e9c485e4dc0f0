pub mod State
pub mod Used
pub mod Words
pub mod Calls
