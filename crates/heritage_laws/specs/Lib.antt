pub mod Certificate
pub mod Trivial
pub mod Laws
