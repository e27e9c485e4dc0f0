mod Lengths
pub mod Bytes
pub mod Spaces
pub mod Rules
pub mod Every
pub mod Values
pub mod Effects
pub mod Asking
pub mod Accesses
pub mod Positions
pub mod Turns
pub mod Starts
