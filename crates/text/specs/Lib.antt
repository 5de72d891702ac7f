pub mod Leb128
pub mod Utf8
pub mod Utf8Runs
pub mod Texts
