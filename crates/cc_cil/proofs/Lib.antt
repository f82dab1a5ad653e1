pub mod Reading
pub mod Recovered
pub mod Sound
pub mod Spelling
pub mod Unique
pub mod Writing
