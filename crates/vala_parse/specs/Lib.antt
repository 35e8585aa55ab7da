pub mod Steps
pub mod Views
pub mod Heads
pub mod Names
pub mod Nests
pub mod Files
pub mod Declarations
