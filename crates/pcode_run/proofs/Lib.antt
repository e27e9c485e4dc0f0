pub mod Obeying
pub mod Doing
pub mod Protos
pub mod Accessing
pub mod Leading
pub mod Standing
pub mod Turning
pub mod Owning
