pub mod Saying
pub mod Header
pub mod Ops
pub mod Coded
pub mod Text
