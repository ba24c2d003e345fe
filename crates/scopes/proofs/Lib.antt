pub mod ArmNames
pub mod Firsts
pub mod Marks
pub mod Resolving
pub mod SizeLevels
pub mod Turns
pub mod Heads
