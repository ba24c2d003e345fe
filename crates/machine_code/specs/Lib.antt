pub mod Code
pub mod Kept
pub mod Rows
pub mod Laws
