pub mod Agree
pub mod Again
pub mod Done
pub mod Entered
pub mod Over
