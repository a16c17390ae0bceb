pub mod Layout
pub mod Row
