pub mod Clashes
pub mod Frozen
pub mod Functions
pub mod HostForm
pub mod Made
pub mod Numbered
pub mod Refusals
pub mod Standard
