pub mod Rows
pub mod Head
pub mod Cuts
