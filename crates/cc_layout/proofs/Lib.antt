pub mod Codes
pub mod CompressedForms
pub mod Laws
pub mod Numbers
pub mod Sequences
