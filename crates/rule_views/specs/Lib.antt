pub mod Beside
pub mod Fires
pub mod InTree
pub mod Makes
pub mod Nodes
pub mod Rows
pub mod Sees
pub mod Variables
