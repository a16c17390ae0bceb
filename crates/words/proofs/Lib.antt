pub mod Expressions
pub mod Writing
pub mod Nodes
pub mod Tags
pub mod Sizes
pub mod EachCell
pub mod Stands
