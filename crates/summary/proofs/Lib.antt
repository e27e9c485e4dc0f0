pub mod Gotos
