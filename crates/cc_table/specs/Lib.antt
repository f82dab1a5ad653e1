pub mod Choice
pub mod Same
pub mod Sizes
pub mod Table
