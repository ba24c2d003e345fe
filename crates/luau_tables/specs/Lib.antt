pub mod Answers
pub mod Causes
pub mod Globals
pub mod Laws
pub mod Own
pub mod Part
pub mod Rules
pub mod Worlds
