pub mod Sections
pub mod File
