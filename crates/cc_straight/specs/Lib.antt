pub mod Added
pub mod Executing
pub mod Form
pub mod Laws
pub mod Reading
pub mod Straight
