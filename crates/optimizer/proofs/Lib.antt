pub mod Choosing
pub mod Skipping
