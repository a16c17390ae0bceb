pub mod RemoveUseless
