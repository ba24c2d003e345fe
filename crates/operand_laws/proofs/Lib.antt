pub mod Instructions
pub mod States
pub mod Uses
pub mod Bodies
pub mod Whole
