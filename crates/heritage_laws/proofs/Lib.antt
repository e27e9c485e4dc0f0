pub mod Strict
pub mod Made
pub mod Tabled
pub mod Follows
pub mod Statements
pub mod Standing
pub mod Trivial
