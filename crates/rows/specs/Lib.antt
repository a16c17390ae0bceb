pub mod Database
pub mod Reading
pub mod Equalities
pub mod Premises
pub mod Needed
pub mod Examples
