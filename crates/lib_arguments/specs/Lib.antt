pub mod AtOnce
pub mod Checks
pub mod Rows
