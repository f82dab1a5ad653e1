pub mod Conversions
pub mod Overloads
pub mod Laws
