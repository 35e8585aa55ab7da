pub mod Opens
pub mod Opened
