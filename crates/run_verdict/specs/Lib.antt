pub mod Runnable
pub mod Search
pub mod Runs
