pub mod ColumnsLeft
pub mod Parts
pub mod Placed
pub mod Head
pub mod Written
pub mod Functions
