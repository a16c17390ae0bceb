pub mod Passing
pub mod Below
