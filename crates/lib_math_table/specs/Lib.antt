pub mod Best
pub mod Builtins
pub mod Joined
pub mod Sorted
pub mod Targets
