pub mod Walk
pub mod Below
