pub mod Cells
pub mod Frames
pub mod RunState
pub mod Tables
pub mod Flows
pub mod Running
pub mod Whole
