pub mod Faults
pub mod Meanings
pub mod Plain
pub mod Readings
