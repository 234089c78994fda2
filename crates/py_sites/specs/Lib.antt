pub mod Code
pub mod Nodes
pub mod Refs
pub mod Walks
