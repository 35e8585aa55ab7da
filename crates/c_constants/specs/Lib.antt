pub mod Told
pub mod Choices
