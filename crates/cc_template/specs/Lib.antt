pub mod Counting
pub mod Expansion
pub mod Faults
pub mod Nodes
pub mod Walk
