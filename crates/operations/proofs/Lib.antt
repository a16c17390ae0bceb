pub mod Checking
pub mod Rooms
