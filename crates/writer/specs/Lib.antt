pub mod Writes
pub mod Contract
