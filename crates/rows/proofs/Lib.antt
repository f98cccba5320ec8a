pub mod Encoding
pub mod Triggers
pub mod Outputs
pub mod Tables
pub mod Growth
pub mod Entering
