pub mod Expanded
pub mod Judged
pub mod Laws
