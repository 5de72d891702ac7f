pub mod Reference
pub mod Corners
pub mod LastEnd
