pub mod Ends
pub mod Resolving
pub mod Terms
