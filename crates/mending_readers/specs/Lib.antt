pub mod Mending
pub mod Small
