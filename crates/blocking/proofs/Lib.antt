pub mod Starting
pub mod Fresh
pub mod Answer
