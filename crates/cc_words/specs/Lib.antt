pub mod Given
pub mod Options
pub mod Shown
pub mod Words
