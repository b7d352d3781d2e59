pub mod Nodes
pub mod Pushes
