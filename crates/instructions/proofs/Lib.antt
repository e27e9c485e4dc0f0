pub mod Apart
pub mod Indices
pub mod Standing
