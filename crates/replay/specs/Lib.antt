pub mod Counts
pub mod Sums
