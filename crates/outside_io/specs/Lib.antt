pub mod Files
pub mod Sinks
pub mod MemFiles
pub mod MemSink
