pub mod Awaited
pub mod Faults
pub mod Scan
pub mod Words
