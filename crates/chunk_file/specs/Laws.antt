-- What reading has to do with spelling.
use Rattle.std.specs.Prelude.{◌≡◌, ℕ, ◌≢◌, ◌↔◌, List, [], ◌++◌, length}
use Rattle.std.specs.List.{AllByRecursion}
use Rattle.op_words.specs.Chunks.{ChunkOf}
use Rattle.chunk_file.specs.Spelling.{spelling, HasCounts, IsByte, IsSized}
use Rattle.chunk_file.specs.Reading.{IsChunk, Truncated, Trailing, read_file}

abbrev pub AreBytes : List ℕ → Type 0
AreBytes bs = AllByRecursion IsByte bs

-- the bytes are a chunk's
pub record Spells (bytes : List ℕ) (c : ChunkOf) : Type 0 where
  pub counts : HasCounts c
  pub sized : IsSized c
  pub bytes_are : bytes ≡ spelling c

-- the bytes begin a chunk's, and end before it does
pub record BeginsChunk (bytes : List ℕ) : Type 0 where
  pub chunk : ChunkOf
  pub counts : HasCounts chunk
  pub sized : IsSized chunk
  pub more : List ℕ
  pub some : more ≢ []
  pub begins : spelling chunk ≡ bytes ++ more

-- the bytes are a chunk's, and others behind them
pub record HasTrailing (bytes : List ℕ) (at : ℕ) : Type 0 where
  pub chunk : ChunkOf
  pub counts : HasCounts chunk
  pub sized : IsSized chunk
  pub more : List ℕ
  pub some : more ≢ []
  pub bytes_are : bytes ≡ spelling chunk ++ more
  pub place : at ≡ length (spelling chunk)

-- a file is read as a chunk exactly where its bytes are the chunk's
abbrev pub ReadsSpellings : Type 0
ReadsSpellings = (bytes : List ℕ) (c : ChunkOf) → AreBytes bytes → (read_file bytes ≡ IsChunk c) ↔ Spells bytes c

-- it is cut off exactly where its bytes begin a chunk's and end before it does
abbrev pub ReadsBeginnings : Type 0
ReadsBeginnings = (bytes : List ℕ) → AreBytes bytes → (read_file bytes ≡ Truncated (length bytes)) ↔ BeginsChunk bytes

-- others stand behind a chunk's bytes exactly where it says so
abbrev pub ReadsTrailing : Type 0
ReadsTrailing = (bytes : List ℕ) (at : ℕ) → AreBytes bytes → (read_file bytes ≡ Trailing at) ↔ HasTrailing bytes at

-- two chunks of one spelling are one
abbrev pub HasOneChunk : Type 0
HasOneChunk = (bytes : List ℕ) (c d : ChunkOf) → Spells bytes c → Spells bytes d → c ≡ d

-- no spelling is the beginning of another
abbrev pub NoPrefix : Type 0
NoPrefix = (bytes : List ℕ) (c : ChunkOf) → Spells bytes c → BeginsChunk bytes → ⊥
