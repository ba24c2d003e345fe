pub mod Captures
