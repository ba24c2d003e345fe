pub mod Levels
pub mod Classes
pub mod Items
pub mod Turns
pub mod Steps
pub mod Laws
