pub mod Faults
pub mod Entries
pub mod Inside
pub mod Framed
pub mod Judgement
pub mod Running
