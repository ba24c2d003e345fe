-- What the functions that read answer, by what a field or a file is read as.
use Rattle.std.specs.Prelude.{◌≡◌, ℕ, List, length, Option, Some, None, Result, Ok, Err}
use Rattle.op_words.specs.Chunks.{ChunkOf, chunk_of}
use Rattle.op_words.specs.declared.chunk.Chunk.{Chunk}
use Rattle.chunk_file.specs.Laws.{Spells, BeginsChunk, HasTrailing}
use Rattle.chunk_file.specs.Reading.{Found, Read, Ends, Wrong, Answer, IsChunk, Truncated, BadMagic, BadVersion, BadField, Trailing}
use Rattle.chunk_file.specs.declared.error.ChunkErr.{ChunkErr}
use Rattle.chunk_file.specs.declared.error.ChunkErr.TheVariants as errors
use Rattle.chunk_file.specs.declared.fault.Fault.{Fault}
use Rattle.chunk_file.specs.declared.fault.Fault.TheVariants as faults

-- a wrong field has so many bytes from its first one on
pub record IsWrongAt {A : Type 0} (found : Found A) (left : ℕ) : Type 0 where
  pub from : List ℕ
  pub is : found ≡ Wrong from
  pub place : left ≡ length from

abbrev pub FailsBy : {A : Type 0} → Found A → Fault → Type 0
FailsBy found faults.Ends = found ≡ Ends
FailsBy found (faults.Wrong left) = IsWrongAt found left
FailsBy found faults.OutOfMemory = Unit {0}

-- a field is not read, for this fault
pub record Fails {A : Type 0} (found : Found A) (fault : Fault) : Type 0 where
  pub by : FailsBy found fault

-- A field is read as what the value means, and the bytes behind it are left; or it is not read. What is left then is not said.
abbrev pub Gives : {A B : Type 0} → (mean : A → B) → Found B → Result A Fault → (left : List ℕ) → Type 0
Gives mean found (Ok a) left = found ≡ Read (mean a) left
Gives mean found (Err fault) left = Fails found fault

-- why a file is no chunk; for want of memory nothing is said
abbrev pub IsFault : Answer → ChunkErr → Type 0
IsFault answer (errors.Truncated at) = answer ≡ Truncated at
IsFault answer (errors.BadMagic at) = answer ≡ BadMagic at
IsFault answer (errors.BadVersion at) = answer ≡ BadVersion at
IsFault answer (errors.BadField at) = answer ≡ BadField at
IsFault answer (errors.Trailing at) = answer ≡ Trailing at
IsFault answer errors.OutOfMemory = Unit {0}

-- the number of a cause; want of memory has none
abbrev pub number_of : ChunkErr → Option ℕ
number_of (errors.Truncated at) = Some 30
number_of (errors.BadMagic at) = Some 31
number_of (errors.BadVersion at) = Some 32
number_of (errors.BadField at) = Some 33
number_of (errors.Trailing at) = Some 34
number_of errors.OutOfMemory = None

-- the chunk that a file is read as, or why it is none
abbrev pub Answers : Answer → Result Chunk ChunkErr → Type 0
Answers answer (Ok chunk) = answer ≡ IsChunk (chunk_of chunk)
Answers answer (Err error) = IsFault answer error

-- What it says of the bytes: they are the chunk's; or they begin one and end before it does; or others stand behind one; or none of
-- these. For want of memory nothing is said.
abbrev pub Says : List ℕ → Result Chunk ChunkErr → Type 0
Says bytes (Ok chunk) = Spells bytes (chunk_of chunk)
Says bytes (Err (errors.Truncated at)) = BeginsChunk bytes × (at ≡ length bytes)
Says bytes (Err (errors.Trailing at)) = HasTrailing bytes at
Says bytes (Err errors.OutOfMemory) = Unit {0}
Says bytes (Err error) = ((c : ChunkOf) → Spells bytes c → ⊥) × (BeginsChunk bytes → ⊥)
