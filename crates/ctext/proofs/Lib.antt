pub mod Hexadecimal
pub mod Nested
pub mod Shown
