pub mod Facts
pub mod Escapes
pub mod Accesses
pub mod Listed
