pub mod Examples
pub mod Statements
pub mod Refusals
