mod Functions
pub mod Growing
pub mod Lists
pub mod Reading
mod Numbering
mod Values
