pub mod Kept
pub mod Front
pub mod Unseen
pub mod Reading
pub mod Plan
pub mod Written
pub mod Proved
pub mod Again
