pub mod Node
pub mod Pass
pub mod Climbing
