pub mod Answering
pub mod Builtins
pub mod Changes
pub mod Codes
pub mod Directives
pub mod Formats
pub mod Pieces
pub mod Reading
