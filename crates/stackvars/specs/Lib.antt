pub mod Collected
pub mod Sweep
pub mod Accesses
pub mod Near
pub mod Cuts
pub mod Cases
