pub mod Steps
pub mod Gathered
pub mod Rows
pub mod Writing
pub mod Generated
pub mod Counting
