pub mod Written
pub mod Same
pub mod Variables
pub mod Own
