pub mod Heap
pub mod Runs
pub mod Sizes
pub mod States
pub mod Texts
