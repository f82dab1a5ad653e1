pub mod Laws
pub mod Parsing
pub mod Reading
pub mod Numerals
pub mod Texts
