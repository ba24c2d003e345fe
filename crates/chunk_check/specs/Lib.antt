pub mod Faults
pub mod Lines
pub mod Causes
pub mod Checks
