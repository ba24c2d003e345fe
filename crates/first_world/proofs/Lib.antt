pub mod NumbersKept
pub mod Worlds
