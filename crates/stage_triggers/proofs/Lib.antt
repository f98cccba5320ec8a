pub mod Bounded
pub mod Planned
pub mod Reasons
pub mod Looking
pub mod Found
