pub mod Cells
pub mod Host
pub mod Kinds
pub mod Memory
pub mod Outside
