pub mod Reading
pub mod Complete
pub mod Counts
pub mod Plan
pub mod Same
pub mod Handed
pub mod Widest
