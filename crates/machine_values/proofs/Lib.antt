pub mod Awaited
pub mod Ready
pub mod Taking
