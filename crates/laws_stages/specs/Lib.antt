pub mod Reached
pub mod Says
