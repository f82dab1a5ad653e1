pub mod ClauseLines
pub mod CodeLines
pub mod ModuleLines
pub mod Places
pub mod RowTexts
pub mod Unique
