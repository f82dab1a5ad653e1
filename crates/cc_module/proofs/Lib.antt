pub mod Blobs
pub mod Elements
pub mod Heads
pub mod Lists
pub mod Methods
pub mod Types
pub mod Writing
