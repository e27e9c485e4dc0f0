pub mod Again
pub mod Bodies
pub mod Calls
pub mod Dispatch
pub mod Each
pub mod Forms
pub mod Fronts
pub mod Heads
pub mod Labels
pub mod Law
pub mod Naming
pub mod Parts
pub mod Rows
pub mod Switches
pub mod Whole
pub mod Widths
mod Named
mod Places
