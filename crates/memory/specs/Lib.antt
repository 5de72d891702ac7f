pub mod Memory
pub mod Record
