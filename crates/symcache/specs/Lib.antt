pub mod Answers
pub mod Reader
