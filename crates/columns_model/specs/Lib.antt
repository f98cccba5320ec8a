pub mod Differences
pub mod Columns
pub mod Store
pub mod Cases
