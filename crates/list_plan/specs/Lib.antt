pub mod Listed
pub mod Totals
pub mod Worked
