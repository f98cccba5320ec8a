pub mod Kept
pub mod Rows
pub mod RuleRow
pub mod FormRow
pub mod Reading
pub mod Held
