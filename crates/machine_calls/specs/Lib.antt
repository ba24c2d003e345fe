pub mod Waiting
pub mod Moving
pub mod Parameters
pub mod Protecting
pub mod Callees
pub mod Charging
pub mod Laws
