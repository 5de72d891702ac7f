pub mod Laws
pub mod Sizes
pub mod Branches
pub mod Parts
pub mod Kept
