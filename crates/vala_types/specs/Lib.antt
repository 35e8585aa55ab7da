pub mod Ranks
pub mod Ties
pub mod Walk
pub mod Fits
pub mod Changes
pub mod Tests
pub mod Rows
pub mod Laws
