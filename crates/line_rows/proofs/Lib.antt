pub mod Words
pub mod Turns
pub mod Packed
pub mod Entry
pub mod Worked
