pub mod Trace
pub mod TwoWay
pub mod Machine
pub mod Agree
pub mod Laws
pub mod Examples
