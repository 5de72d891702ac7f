pub mod Pairs
pub mod Walks
pub mod Lines
pub mod Rows
pub mod Tree
pub mod Visits
pub mod Gathered
