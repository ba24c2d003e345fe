pub mod Runs
pub mod Operations
pub mod Globals
