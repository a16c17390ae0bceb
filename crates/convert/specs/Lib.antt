pub mod Convert
pub mod Examples
pub mod Code
pub mod Law
