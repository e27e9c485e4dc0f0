pub mod Value
pub mod Do
pub mod Flat
pub mod Mentions
pub mod Lengths
pub mod Distinct
pub mod Switches
pub mod Runs
mod Sets
pub mod Places
mod Firsts
pub mod Order
mod Entries
pub mod Grows
pub mod Names
pub mod Layers
