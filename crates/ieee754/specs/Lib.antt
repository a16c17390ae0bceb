pub mod Ieee754
pub mod Converted
pub mod Roots
pub mod Examples
