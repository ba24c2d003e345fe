pub mod Beginning
pub mod Imports
pub mod Loaded
