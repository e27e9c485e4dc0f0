pub mod Words
pub mod Outside
pub mod Shapes
