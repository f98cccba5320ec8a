pub mod Parts
pub mod Transfer
