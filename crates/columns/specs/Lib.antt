pub mod Contract
pub mod Placed
