pub mod Bodies
pub mod BodyFaults
pub mod Instructions
pub mod Steps
