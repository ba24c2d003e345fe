pub mod States
pub mod Uses
pub mod Bodies
pub mod Around
pub mod Functions
pub mod Whole
pub mod Few
