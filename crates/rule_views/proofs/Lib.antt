pub mod Fire
pub mod Layers
pub mod Same
pub mod Seen
pub mod Trees
pub mod Widths
