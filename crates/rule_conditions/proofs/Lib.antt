pub mod Borrows
pub mod Bounds
pub mod Compared
pub mod Decided
pub mod Joined
