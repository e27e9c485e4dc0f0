pub mod Answer
pub mod Words
pub mod Names
pub mod Expressions
pub mod Statements
pub mod Functions
