pub mod States
pub mod May
