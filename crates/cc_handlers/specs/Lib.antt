pub mod Classes
pub mod Search
pub mod Ways
pub mod Pendings
