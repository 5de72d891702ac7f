pub mod Columns
pub mod Clamped
pub mod Marked
