pub mod DatalogRules
pub mod Rules
