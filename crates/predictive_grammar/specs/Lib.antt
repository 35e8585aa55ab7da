pub mod Forms
pub mod Follows
pub mod Steps
pub mod Reading
pub mod Exact
pub mod Fit
pub mod Small
