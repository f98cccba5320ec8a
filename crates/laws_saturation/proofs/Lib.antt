pub mod RuleRows
pub mod Gained
pub mod Sizes
pub mod Closes
