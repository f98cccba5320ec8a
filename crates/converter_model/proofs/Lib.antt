pub mod Converting
pub mod Same
pub mod Back
pub mod Faults
pub mod Cases
