pub mod Request
pub mod Worked
