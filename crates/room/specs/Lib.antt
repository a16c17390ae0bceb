pub mod Done
pub mod Same
pub mod Smaller
pub mod Six
pub mod Fits
pub mod Larger
