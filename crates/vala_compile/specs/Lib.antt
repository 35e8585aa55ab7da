pub mod Carried
pub mod Program
pub mod Quoted
pub mod Steps
pub mod Correct
