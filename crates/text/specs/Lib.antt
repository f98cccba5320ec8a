pub mod Writing
pub mod Legible
pub mod Lines
