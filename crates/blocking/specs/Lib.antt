pub mod Start
pub mod Outcome
pub mod Tried
