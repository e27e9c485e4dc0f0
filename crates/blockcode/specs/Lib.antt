pub mod Run
pub mod Numbers
pub mod Laid
pub mod Rising
pub mod CanLay
