pub mod Edits
pub mod Sources
