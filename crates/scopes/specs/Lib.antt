pub mod Refused
pub mod Used
pub mod Heads
