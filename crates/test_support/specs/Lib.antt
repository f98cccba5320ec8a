pub mod Same
pub mod Columns
pub mod Tally
pub mod Lent
