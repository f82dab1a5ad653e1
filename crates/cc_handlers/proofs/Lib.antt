pub mod Classing
pub mod Walking
pub mod Departing
pub mod Stacking
