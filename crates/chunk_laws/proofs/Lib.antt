pub mod Distances
pub mod Lines
pub mod Landings
pub mod Steps
pub mod Jumps
pub mod Faults
pub mod Functions
pub mod Whole
