pub mod Cells
pub mod Nodes
pub mod Bare
pub mod Plans
