pub mod Command
pub mod Refusals
pub mod Readings
pub mod Answer
pub mod Delivery
pub mod Making
