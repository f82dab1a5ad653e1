pub mod Fetch
pub mod OneWay
pub mod OneAnswer
pub mod Perform
pub mod Steps
pub mod Turned
