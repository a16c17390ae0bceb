pub mod Strings
pub mod Slots
pub mod Compact
pub mod Examples
pub mod References
pub mod Law
