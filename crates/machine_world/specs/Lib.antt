pub mod Functions
pub mod Parts
pub mod Sound
pub mod Rows
