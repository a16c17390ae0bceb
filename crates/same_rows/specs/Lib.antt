pub mod Total
pub mod SameRows
