pub mod From
pub mod Sources
pub mod Descending
