pub mod Decoded
pub mod Outputs
pub mod Agree
