pub mod Shifted
pub mod Summed
