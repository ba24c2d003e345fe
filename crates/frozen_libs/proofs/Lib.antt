pub mod Holding
pub mod Filling
pub mod NumbersKept
pub mod Shared
pub mod Starting
pub mod StandardTables
pub mod Paths
