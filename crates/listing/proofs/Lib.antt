pub mod Steps
pub mod Printing
pub mod Calls
pub mod Cut
pub mod Inside
pub mod Worked
