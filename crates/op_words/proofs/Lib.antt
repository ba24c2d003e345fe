pub mod Packing
pub mod Rows
pub mod Places
pub mod InsnAt
