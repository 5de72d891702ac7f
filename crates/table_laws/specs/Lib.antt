pub mod Plain
pub mod PlainTexts
pub mod Marked
