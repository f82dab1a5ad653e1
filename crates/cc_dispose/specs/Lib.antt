pub mod Keeps
pub mod Lower
