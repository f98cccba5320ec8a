pub mod Standing
pub mod Starred
pub mod Decisive
pub mod Reason
