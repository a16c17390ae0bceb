pub mod Reduce
pub mod Stack
pub mod Read
pub mod Plan
