pub mod Request
pub mod PlainForm
pub mod Verdict
pub mod Message
pub mod Passed
pub mod Numbers
pub mod Cause
pub mod Table
