pub mod Labels
pub mod Linking
pub mod Making
