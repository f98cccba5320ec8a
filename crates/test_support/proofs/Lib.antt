pub mod Same
pub mod Columns
