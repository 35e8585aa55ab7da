pub mod Answered
pub mod Sizes
pub mod Tested
pub mod Settling
pub mod Entered
pub mod Taken
pub mod Silences
