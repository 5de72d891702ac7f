pub mod Bytes
pub mod Fitting
pub mod Cases
pub mod Runs
