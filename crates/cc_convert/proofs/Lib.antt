pub mod Rules
pub mod Chosen
pub mod LawProofs
