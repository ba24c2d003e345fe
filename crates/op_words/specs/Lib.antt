pub mod Chunks
pub mod Decoding
pub mod Encoding
pub mod Names
