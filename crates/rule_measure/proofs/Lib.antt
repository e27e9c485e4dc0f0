pub mod Alike
pub mod Edits
pub mod Falls
pub mod Lessens
pub mod Needs
pub mod Totals
