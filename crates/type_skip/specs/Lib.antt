pub mod Balance
pub mod Brackets
pub mod Reading
pub mod Inner
pub mod Refusals
pub mod Words
