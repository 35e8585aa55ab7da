pub mod Behind
pub mod Fields
pub mod Functions
pub mod Tables
