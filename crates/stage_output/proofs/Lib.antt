pub mod CyclicRows
pub mod Disjuncts
pub mod Entering
pub mod Flat
pub mod FullTerms
pub mod Going
pub mod Passing
pub mod Placed
