pub mod Found
pub mod Kept
pub mod Room
pub mod Rows
pub mod Walk
pub mod Words
