pub mod Walking
pub mod Nodes
