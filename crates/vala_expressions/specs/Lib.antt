pub mod Asks
pub mod Brackets
pub mod Chains
