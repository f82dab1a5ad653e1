pub mod Apps
pub mod Counts
pub mod Lines
pub mod Mapped
