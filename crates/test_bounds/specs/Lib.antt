pub mod Marks
pub mod Most
