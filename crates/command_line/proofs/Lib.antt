pub mod Names
pub mod FromClap
pub mod Steps
pub mod Examples
pub mod Bounds
