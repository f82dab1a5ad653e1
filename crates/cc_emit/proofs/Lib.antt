pub mod Names
pub mod Sizes
pub mod Storable
pub mod Ranges
