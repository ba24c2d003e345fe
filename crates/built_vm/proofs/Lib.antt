pub mod Reading
pub mod Registers
pub mod Turns
