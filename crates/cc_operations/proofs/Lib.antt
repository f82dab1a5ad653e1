pub mod Arguments
pub mod Picking
pub mod Rows
