pub mod Lists
pub mod Shown
pub mod Started
pub mod Entries
