pub mod Maps
pub mod Meaning
pub mod Setting
pub mod Log
