pub mod HandOut
