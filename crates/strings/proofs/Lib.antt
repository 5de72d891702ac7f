pub mod Fours
pub mod TextRoom
