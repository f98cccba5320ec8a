pub mod Converter
pub mod Cases
