pub mod Editions
pub mod Law
pub mod Examples
