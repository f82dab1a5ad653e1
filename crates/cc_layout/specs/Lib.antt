pub mod Codes
pub mod Compressed
pub mod Layout
pub mod Numbers
