pub mod Step
pub mod Heads
