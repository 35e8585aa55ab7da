pub mod Standings
pub mod Shows
pub mod Answers
pub mod Rows
pub mod Given
pub mod Stores
