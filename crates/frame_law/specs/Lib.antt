pub mod Aligned
pub mod Laws
pub mod Worked
