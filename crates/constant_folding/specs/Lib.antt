pub mod Nodes
pub mod Plans
pub mod Examples
