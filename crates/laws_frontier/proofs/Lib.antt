pub mod Image
pub mod Filled
pub mod Starred
pub mod Blocks
pub mod Stages
