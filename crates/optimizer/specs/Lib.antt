pub mod Settled
pub mod Choices
