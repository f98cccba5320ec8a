pub mod Numbering
pub mod Owners
