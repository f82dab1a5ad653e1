pub mod Exits
pub mod Forms
pub mod Going
pub mod Rows
