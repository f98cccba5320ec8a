pub mod Lists
pub mod Parsing
pub mod Numbers
pub mod Many
pub mod Heads
