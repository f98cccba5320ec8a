pub mod TestsFit
pub mod Starred
pub mod HandledSmall
pub mod Tabling
pub mod Leavable
