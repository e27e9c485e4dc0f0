pub mod Pieces
pub mod Told
pub mod Cause
pub mod Rows
pub mod Table
pub mod Fetched
