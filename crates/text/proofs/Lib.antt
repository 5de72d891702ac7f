pub mod Utf8Steps
mod Utf8Eights
pub mod Leb128Laws
mod Leb128Reading
pub mod Marked
pub mod Utf8Laws
pub mod TextLaws
