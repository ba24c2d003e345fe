pub mod ArenaKept
pub mod AtOnce
pub mod Found
pub mod Looks
pub mod NamesKept
pub mod RowsRun
pub mod Saying
