pub mod Predicates
pub mod Examples
