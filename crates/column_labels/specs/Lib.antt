pub mod ColumnLabels
