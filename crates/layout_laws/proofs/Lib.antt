pub mod Pieces
pub mod Switches
pub mod Positions
pub mod Follows
pub mod Ends
pub mod Laid
pub mod Declared
pub mod Keeps
pub mod Covered
mod Cases
pub mod Obeys
pub mod Fits
mod Worked
