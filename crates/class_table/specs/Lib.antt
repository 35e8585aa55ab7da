pub mod Trees
pub mod Features
pub mod Bases
pub mod Slots
pub mod Faults
pub mod Laws
