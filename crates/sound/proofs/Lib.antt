pub mod Refusals
pub mod HandedOut
pub mod Numbers
pub mod Operations
