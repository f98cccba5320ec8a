pub mod Instances
pub mod Attempts
pub mod Steps
