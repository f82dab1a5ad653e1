pub mod Choices
pub mod Loops
pub mod Rows
pub mod Zeros
