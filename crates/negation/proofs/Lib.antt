pub mod Negates
