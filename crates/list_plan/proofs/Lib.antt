pub mod Handed
pub mod Totals
