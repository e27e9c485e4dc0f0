pub mod Numbers
pub mod Swept
pub mod Moved
pub mod Order
pub mod Apart
pub mod Whole
