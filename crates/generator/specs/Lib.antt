pub mod Draws
pub mod Generated
pub mod Worked
pub mod Fit
