pub mod Names
pub mod Shown
pub mod Parts
pub mod Steps
pub mod Library
pub mod Plans
pub mod Texts
pub mod Routines
