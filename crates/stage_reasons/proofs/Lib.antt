pub mod Disjuncts
pub mod Starred
pub mod Blocked
pub mod Known
