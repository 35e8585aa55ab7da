pub mod Ahead
pub mod Gets
pub mod Parsed
pub mod Rest
