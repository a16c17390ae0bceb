pub mod Laws
pub mod Patterns
pub mod Comparison
pub mod ComparisonLaws
