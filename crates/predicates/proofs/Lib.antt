pub mod Cells
pub mod Search
pub mod Idle
