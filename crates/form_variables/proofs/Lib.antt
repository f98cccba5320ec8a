pub mod Datalog
pub mod Elements
pub mod Sets
