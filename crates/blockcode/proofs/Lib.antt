pub mod Grows
pub mod Straight
pub mod Targets
pub mod ByValue
pub mod Arms
