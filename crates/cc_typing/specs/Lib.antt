pub mod Told
pub mod Library
pub mod Faults
