pub mod Status
pub mod Course
pub mod Stages
pub mod Causes
