pub mod Looks
pub mod Coded
pub mod Resolved
pub mod Statements
pub mod Machine
pub mod Laws
pub mod Values
pub mod Steady
