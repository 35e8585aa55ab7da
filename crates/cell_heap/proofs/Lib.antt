pub mod RunLaws
pub mod RunStores
pub mod Sizes
pub mod StateLaws
pub mod Stored
pub mod TextLaws
