pub mod IsEmpty
