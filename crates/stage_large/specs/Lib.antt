pub mod Stage
pub mod Large
pub mod Idle
