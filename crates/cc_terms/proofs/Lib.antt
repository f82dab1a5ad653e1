pub mod Going
pub mod Cases
pub mod Rows
pub mod Longer
pub mod Places
