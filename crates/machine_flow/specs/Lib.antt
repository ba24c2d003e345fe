pub mod Flow
pub mod Counts
