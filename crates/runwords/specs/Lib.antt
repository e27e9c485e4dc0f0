pub mod Request
pub mod Fetched
pub mod Table
