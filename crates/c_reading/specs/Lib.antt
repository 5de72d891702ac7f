pub mod Stored
pub mod Reading
