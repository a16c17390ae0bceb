pub mod Trees
pub mod Own
pub mod Widths
