mod Follows
mod Grown
mod Turns
mod Whole
