pub mod Negation
