pub mod Steps
pub mod Owned
pub mod Constants
pub mod Numbered
pub mod Beyond
pub mod Staying
pub mod Lists
pub mod Readying
