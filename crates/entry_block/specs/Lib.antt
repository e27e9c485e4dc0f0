pub mod Entered
pub mod Laws
