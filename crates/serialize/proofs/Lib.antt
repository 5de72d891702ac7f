pub mod Runs
pub mod Rows
pub mod Ranges
pub mod Sorted
pub mod Whole
pub mod Answers
pub mod Read
pub mod Worked
