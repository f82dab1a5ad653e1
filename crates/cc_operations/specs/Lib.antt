pub mod Numbers
pub mod Judgements
pub mod Choosing
pub mod Operations
