pub mod Constants
pub mod Steps
