pub mod Splitting
pub mod Placing
