pub mod TwoWay
pub mod Machine
pub mod Ranked
pub mod Agree
pub mod Examples
