pub mod Behaves
pub mod Compiled
pub mod Known
pub mod Sites
pub mod Stretches
pub mod Values
pub mod Ways
