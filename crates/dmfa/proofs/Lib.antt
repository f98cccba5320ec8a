pub mod Filling
pub mod Fronts
pub mod Promises
pub mod Checking
