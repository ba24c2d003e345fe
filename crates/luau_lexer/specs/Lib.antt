pub mod Refusals
pub mod Laws
pub mod Parts
pub mod Finding
