pub mod Refusals
pub mod Checker
