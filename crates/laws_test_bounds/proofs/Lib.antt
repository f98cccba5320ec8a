pub mod Choices
pub mod Derived
pub mod Bounded
