pub mod Contents
pub mod Counted
pub mod Fields
pub mod Joined
pub mod Loops
pub mod Outcomes
pub mod Sections
pub mod Whole
