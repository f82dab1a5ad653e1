pub mod Headers
pub mod ImageFaults
pub mod Images
pub mod Reading
