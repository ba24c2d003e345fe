mod Scripts
mod Codes
mod SourceFunctions
mod SourceTables
mod SourceRest
mod ChunkExamples
mod SafeChunkExamples
