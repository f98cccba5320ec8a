pub mod First
pub mod Settling
