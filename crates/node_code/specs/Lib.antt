pub mod Code
pub mod Conditions
pub mod Lists
pub mod Nodes
