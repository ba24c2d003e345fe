pub mod Leading
pub mod Operations
pub mod Texts
