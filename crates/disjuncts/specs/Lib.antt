pub mod Disjunct
