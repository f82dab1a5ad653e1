pub mod Weight
pub mod Turns
pub mod Depths
pub mod Reading
pub mod Parse
pub mod Coming
