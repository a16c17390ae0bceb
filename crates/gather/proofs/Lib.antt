pub mod Laws
pub mod Strings
