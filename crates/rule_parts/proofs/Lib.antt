pub mod Joined
pub mod Parted
pub mod Pieces
