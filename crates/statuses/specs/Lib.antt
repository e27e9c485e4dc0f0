pub mod Answer
pub mod Delivery
pub mod Cause
pub mod Told
pub mod Table
pub mod Fetched
