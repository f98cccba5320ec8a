pub mod Cyclic
pub mod Making
