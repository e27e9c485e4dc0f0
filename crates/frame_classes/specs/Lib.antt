pub mod Runs
pub mod FrameVariables
