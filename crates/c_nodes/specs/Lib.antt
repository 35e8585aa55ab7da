pub mod Laws
pub mod Roles
pub mod Rows
pub mod Seen
