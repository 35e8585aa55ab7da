pub mod Mends
pub mod Menders
pub mod Small
