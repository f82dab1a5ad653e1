pub mod Answers
pub mod Complete
pub mod Exit
pub mod Notes
pub mod Rows
pub mod Stops
