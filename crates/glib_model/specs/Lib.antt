pub mod Kinds
pub mod Found
pub mod Arguments
pub mod Ends
pub mod Errors
pub mod Texts
pub mod Outside
