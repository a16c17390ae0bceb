pub mod Kept
pub mod Pass
