pub mod Stage
pub mod Spent
pub mod Pending
pub mod Trigger
pub mod Plan
pub mod Nothing
