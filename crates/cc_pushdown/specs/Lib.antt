pub mod Build
pub mod Values
pub mod Words
pub mod Machine
