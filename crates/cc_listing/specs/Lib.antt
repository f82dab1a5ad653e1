pub mod Bodies
pub mod Laws
pub mod Listing
pub mod Mnemonics
pub mod Rows
