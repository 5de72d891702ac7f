pub mod Listing
pub mod Pieces
pub mod Cut
