pub mod Origins
pub mod Law
