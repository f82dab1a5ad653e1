pub mod Contents
pub mod Finding
pub mod Functions
pub mod Programs
pub mod Laws
