pub mod Starts
pub mod Claim
