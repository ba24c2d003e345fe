-- What a text is read as, and what the bytes of a chunk are.
use Rattle.std.specs.Prelude.{◌≡◌, ℕ, List, []}
use Rattle.syntax_tree.specs.Accepts.{Accepts, Refuses}
use Rattle.syntax_tree.specs.Bound.{bound, faults}
use Rattle.built_emitter.specs.Standing.{IsBound}
use Rattle.script_compiler.specs.Compiled.{IsNumbered}
use Rattle.machine_meaning.specs.WellFormed.{IsWellFormed}
use Rattle.chunk_file.specs.Reading.{read_file, IsChunk}
use Rattle.luau_cli.specs.declared.chunks.ChunkReading.{ChunkReading}
use Rattle.luau_cli.specs.declared.chunks.ChunkReading.TheVariants as chunk
use Rattle.luau_cli.specs.declared.script.Script.{Script}
use Rattle.luau_cli.specs.declared.script.Reading.{Reading}
use Rattle.luau_cli.specs.declared.script.Reading.TheVariants as reading
use Rattle.luau_cli.specs.Refusals.{texts_of, IsChunkRefused}

-- an accepted text, with its tree, its texts, and the bindings of the tree
pub record IsRead (bytes : List ℕ) (s : Script) : Type 0 where
  pub accepted : Accepts bytes s.tree
  pub names : s.names ≡ texts_of accepted
  pub bindings : s.bindings ≡ bound s.tree

-- a script with its tree, or a text with why it is refused
abbrev pub IsReadingOf : List ℕ → Reading → Type 0
IsReadingOf bytes (reading.Accepted s) = IsRead bytes s
IsReadingOf bytes (reading.Refused why) = Refuses bytes why

-- the tree has numbers and breaks no rule, and the bindings are its own
pub record IsSound (s : Script) : Type 0 where
  pub numbered : IsNumbered s.tree
  pub standing : IsBound s.tree s.bindings
  pub bindings : s.bindings ≡ bound s.tree
  pub unbroken : faults s.tree ≡ []

-- the bytes of a well-formed chunk, or bytes with why they are refused
abbrev pub IsChunkReading : List ℕ → ChunkReading → Type 0
IsChunkReading bytes (chunk.Sound c) = (read_file bytes ≡ IsChunk c) × IsWellFormed c
IsChunkReading bytes (chunk.Refused why) = IsChunkRefused bytes why
