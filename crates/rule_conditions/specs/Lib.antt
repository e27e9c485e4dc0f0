pub mod Compared
pub mod Tests
pub mod Twice
