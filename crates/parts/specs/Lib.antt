pub mod Exprs
pub mod Stmts
pub mod Tables
pub mod Visits
pub mod Laws
