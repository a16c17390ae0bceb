pub mod Settled
pub mod Recursion
