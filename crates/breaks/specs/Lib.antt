pub mod Order
pub mod Phases
pub mod Text
pub mod Breaks
