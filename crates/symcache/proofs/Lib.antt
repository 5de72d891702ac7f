pub mod ReaderLaws
pub mod WorkedFile
