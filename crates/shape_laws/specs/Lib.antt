pub mod Order
pub mod Jumps
pub mod Named
pub mod Shaped
pub mod Laws
