pub mod Turns
pub mod Sets
pub mod Comparing
pub mod Words
pub mod Worked
