pub mod Sorts
pub mod Structure
