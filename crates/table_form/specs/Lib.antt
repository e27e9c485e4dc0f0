pub mod Trees
pub mod Values
pub mod Slices
pub mod Form
pub mod Tables
pub mod Laws
pub mod Worked
