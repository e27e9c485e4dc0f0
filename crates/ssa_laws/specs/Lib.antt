pub mod Law
pub mod Retarget
pub mod Words
pub mod Replace
pub mod Quiet
