pub mod Decimal
pub mod Counted
pub mod Written
pub mod Size
pub mod ReadBack
