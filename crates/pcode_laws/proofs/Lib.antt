pub mod AsBytes
pub mod Ends
pub mod Grows
pub mod SpaceKinds
pub mod Puts
pub mod Rules
pub mod Sizes
pub mod Within
