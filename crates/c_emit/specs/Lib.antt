pub mod Program
pub mod VMeaning
pub mod Emission
pub mod Laws
