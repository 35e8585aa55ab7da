pub mod Kept
pub mod Runs
pub mod Course
pub mod Laws
