pub mod Copies
pub mod Chosen
