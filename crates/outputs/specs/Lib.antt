pub mod Naming
pub mod Skolem
