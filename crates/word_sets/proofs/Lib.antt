pub mod Turns
pub mod Joining
pub mod Arcs
pub mod Tops
pub mod Orders
pub mod Values
pub mod Scanning
pub mod Worked
