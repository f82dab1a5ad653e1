pub mod Found
pub mod Tables
mod Follows
mod Grown
mod Turns
mod Whole
