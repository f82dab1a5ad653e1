pub mod Functions
pub mod Operators
pub mod Passing
pub mod Pieces
pub mod Regions
pub mod Terms
