-- The functions of a chunk.
use Rattle.std.specs.Prelude.{ℕ, Option, Some, None, slice_get}
use Rattle.op_words.specs.Chunks.{ChunkOf, ProtoOf}

-- the function with that number
abbrev pub proto_at : ChunkOf → ℕ → Option ProtoOf
proto_at chunk p = slice_get chunk.protos p

abbrev pub size_of : Option ProtoOf → ℕ
size_of None = 0
size_of (Some p) = p.registers
