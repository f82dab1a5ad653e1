pub mod Bounds
pub mod Landing
pub mod RegionLanding
pub mod RegionSums
pub mod Rows
pub mod Sums
