pub mod Candidates
pub mod Columns
pub mod Counts
pub mod Faults
pub mod Forms
pub mod Numbering
pub mod Progress
pub mod Reading
