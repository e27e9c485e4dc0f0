pub mod Frame
pub mod Context
pub mod Effects
