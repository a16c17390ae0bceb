pub mod Lists
pub mod Normal
pub mod Unseen
pub mod Folding
pub mod Split
pub mod Found
pub mod Circuit
pub mod Proved
