pub mod RuleRows
pub mod Gained
