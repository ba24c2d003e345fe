pub mod CommandWords
pub mod Deliveries
pub mod Readings
pub mod Bindings
pub mod Refused
pub mod Replying
pub mod Outcomes
pub mod Working
