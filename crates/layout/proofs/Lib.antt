pub mod Cells
pub mod Failing
pub mod Known
pub mod Laws
