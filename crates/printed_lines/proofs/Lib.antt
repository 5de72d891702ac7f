pub mod Runs
pub mod Whole
pub mod Examples
