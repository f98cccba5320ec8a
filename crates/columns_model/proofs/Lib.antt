pub mod Cases
pub mod Differences
pub mod Columns
pub mod Answers
pub mod Sound
pub mod Stores
pub mod RoundTrip
pub mod Accepted
