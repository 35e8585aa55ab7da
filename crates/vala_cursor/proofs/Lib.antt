pub mod Left
pub mod Parsed
pub mod Refused
pub mod Steps
pub mod Ways
