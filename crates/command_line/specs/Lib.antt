pub mod Line
pub mod Names
pub mod Given
pub mod Meaning
pub mod Answers
pub mod Laws
