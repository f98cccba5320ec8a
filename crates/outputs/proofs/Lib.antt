pub mod Naming
pub mod Settled
pub mod Variables
pub mod Disjuncts
