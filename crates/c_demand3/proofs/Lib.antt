pub mod Carried
pub mod Names
pub mod Cursors
pub mod Demand3
pub mod Worked
pub mod Instance
pub mod GapCalls
