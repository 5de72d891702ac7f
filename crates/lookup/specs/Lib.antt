pub mod Answers
pub mod Lookup
