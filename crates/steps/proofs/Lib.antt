pub mod Laws
pub mod Ranges
pub mod Loops
pub mod Lengths
pub mod RowTexts
pub mod SymbolLaws
