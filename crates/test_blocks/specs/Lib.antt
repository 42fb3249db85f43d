pub mod Slots
pub mod Choices
pub mod Looks
