pub mod AsBytes
