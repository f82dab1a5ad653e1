pub mod Kinds
pub mod Regions
pub mod Typed
pub mod States
pub mod Laws
