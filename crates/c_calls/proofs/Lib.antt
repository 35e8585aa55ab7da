pub mod Unfold
pub mod Names
pub mod Statements
pub mod Items
