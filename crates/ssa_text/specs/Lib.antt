pub mod Text
pub mod Ranked
pub mod Worked
