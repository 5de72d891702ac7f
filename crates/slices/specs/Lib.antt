pub mod Bytes
pub mod Slices
