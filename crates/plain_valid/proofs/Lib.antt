pub mod Shapes
pub mod Expressions
pub mod EachKind
pub mod Covers
pub mod Blocks
pub mod Whole
pub mod Callees
pub mod Laying
pub mod Statements
pub mod Valid
pub mod Suits
pub mod Fit
pub mod Signature
pub mod Long
mod WorkedCallees
