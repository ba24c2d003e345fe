-- What the program answers.
use Rattle.std.specs.Prelude.{◌≡◌, ℕ, ◌<◌, ◌≤◌, ◌⊎◌, List, [], ◌++◌, length, Option, Some, None, IfSome, option_map, codes}
use Rattle.outside_io.specs.Files.{Contents}
use Rattle.resource.specs.Faults.{Rose}
use Rattle.whole_num.specs.declared.arithmetic.Stop.{Stop}
use Rattle.whole_num.specs.Whole.{stop_text}
use Rattle.op_words.specs.Chunks.{ChunkOf}
use Rattle.syntax_tree.specs.declared.fault.Refusal.{Refusal}
use Rattle.syntax_tree.specs.declared.tree.Tree.{Tree}
use Rattle.syntax_tree.specs.Accepts.{Accepts, Refuses}
use Rattle.syntax_tree.specs.Bound.{bound}
use Rattle.built_values.specs.declared.end.End.{End}
use Rattle.built_values.specs.declared.end.End.TheVariants.{Ended, Stopped, Unfinished}
use Rattle.built_values.specs.Runs.{Report}
use Rattle.built_source.specs.Steps.{Look}
use Rattle.built_source.specs.Runs.{SourceRun}
use Rattle.built_vm.specs.Shown.{line_of, lines_of}
use Rattle.machine_meaning.specs.WellFormed.{IsWellFormed}
use Rattle.chunk_file.specs.Reading.{read_file, IsChunk}
use Rattle.chunk_file.specs.Spelling.{spelling, HasCounts}
use Rattle.chunk_listing.specs.Listing.{listing}
use Rattle.script_compiler.specs.Compiled.{IsCompiled}
use Rattle.luau_cli.specs.Command.{IsCommand}
use Rattle.luau_cli.specs.declared.words.Mode.{Mode}
use Rattle.luau_cli.specs.declared.words.Mode.TheVariants as modes
use Rattle.luau_cli.specs.declared.refusal.ChunkRefusal.{ChunkRefusal}
use Rattle.luau_cli.specs.declared.refusal.ScriptErr.{ScriptErr}
use Rattle.luau_cli.specs.declared.refusal.ScriptErr.TheVariants as script
use Rattle.luau_cli.specs.Refusals.{Unbuilt, statements, texts_of, not_run, not_compiled, IsScript, IsChunkRefused, error_text, chunk_error_text}

-- a status, the bytes of the output, and those of the report
pub record Answer : Type 0 where
  pub status : ℕ
  pub output : List ℕ
  pub report : List ℕ

abbrev pub usage : List ℕ
usage = codes "usage: luau run|exec|compile|list|gen [options] FILES"

-- the greatest size of a file, in bytes
abbrev pub size_limit : ℕ
size_limit = 1048576

abbrev pub refusal : (status : ℕ) → (text : List ℕ) → Answer
refusal status text = record { status = status; output = []; report = line_of text }

-- the line that tells why a script is refused
abbrev pub refused_text : ScriptErr → List ℕ
refused_text why = codes "1 refused: " ++ error_text why

abbrev pub chunk_refused_text : ChunkRefusal → List ℕ
chunk_refused_text why = codes "1 chunk refused: " ++ chunk_error_text why

-- some bytes, and nothing to report
abbrev pub written : List ℕ → Answer
written bytes = record { status = 0; output = bytes; report = [] }

-- ---- scripts

-- how a script's end is reported, and with which status
pub data IsReported : End → (status : ℕ) → (text : List ℕ) → Type 0 where
  ended : IsReported Ended 0 (codes "1 ended")
  stopped : (stop : Stop) → IsReported (Stopped stop) 1 (codes "1 stopped: " ++ stop_text stop)
  spent : IsReported Unfinished 7 (codes "1 turns spent")

-- what is printed of a script that runs with so many turns, and how it ends
pub data Prints (turns : ℕ) (tree : Tree) (texts : List (List ℕ)) : Answer → Type 0 where
  prints : (r : Report (List ℕ) Look) (status : ℕ) (text : List ℕ) → SourceRun (statements tree) turns r → IsReported r.end status text
      → Prints turns tree texts (record { status = status; output = lines_of r.events; report = line_of text })

-- the bytes of the chunk that a script is compiled to
pub data WritesChunk (tree : Tree) (texts : List (List ℕ)) : Answer → Type 0 where
  writes : (chunk : ChunkOf) → IsCompiled tree (bound tree) texts chunk → HasCounts chunk → WritesChunk tree texts (written (spelling chunk))

-- The answer for the tree of an accepted script: its first node that is not built, or the work that is done with it.
pub data AnswersTree (unbuilt : Unbuilt) (Work : Tree → List (List ℕ) → Answer → Type 0) (tree : Tree) (texts : List (List ℕ)) : Answer → Type 0 where
  not_built : (at : ℕ) → unbuilt tree texts ≡ Some at → AnswersTree unbuilt Work tree texts (refusal 3 (refused_text (script.NotBuilt at)))
  done : (a : Answer) → unbuilt tree texts ≡ None → Work tree texts a → AnswersTree unbuilt Work tree texts a

-- the answer for a script: why and where it is refused, or that for its tree
pub data AnswersScript (unbuilt : Unbuilt) (Work : Tree → List (List ℕ) → Answer → Type 0) (bytes : List ℕ) : Answer → Type 0 where
  refused : (why : Refusal) → Refuses bytes why → AnswersScript unbuilt Work bytes (refusal 3 (refused_text (script.Refused why)))
  accepted : (tree : Tree) (a : Answer) (is : Accepts bytes tree) → AnswersTree unbuilt Work tree (texts_of is) a → AnswersScript unbuilt Work bytes a

-- ---- chunks

-- the answer for a chunk that is listed: why and where it is refused, or its listing
pub data AnswersList (bytes : List ℕ) : Answer → Type 0 where
  refused : (why : ChunkRefusal) → IsChunkRefused bytes why → AnswersList bytes (refusal 8 (chunk_refused_text why))
  lists : (chunk : ChunkOf) → read_file bytes ≡ IsChunk chunk → IsWellFormed chunk → AnswersList bytes (written (listing chunk))

-- ---- files

-- the answer for what was read, by the mode
abbrev pub AnswersBytes : Mode → (turns : ℕ) → (bytes : List ℕ) → Answer → Type 0
AnswersBytes modes.Run turns bytes a = AnswersScript not_run (Prints turns) bytes a
AnswersBytes modes.Compile turns bytes a = AnswersScript not_compiled WritesChunk bytes a
AnswersBytes modes.List turns bytes a = AnswersList bytes a

-- what the files tell of one of them: its contents, or that it is missing; or nothing
abbrev pub told_of : Contents → (file : List ℕ) → Option (Option (List ℕ))
told_of contents file = option_map (λ files. files file) contents

abbrev pub IsThere : Option (List ℕ) → Type 0
IsThere None = ⊥
IsThere (Some bytes) = Unit {0}

abbrev pub IsTooLarge : Option (List ℕ) → Type 0
IsTooLarge None = ⊥
IsTooLarge (Some bytes) = size_limit < length bytes

-- The answer for a file, where the files' count of faults was `before` and is `now`. What is told of the file, if anything
-- is, says which one it is; what is answered for is what was read.
pub data AnswersFile (mode : Mode) (file : List ℕ) (turns before now : ℕ) (told : Option (Option (List ℕ))) : Answer → Type 0 where
  missing : now ≡ before → IfSome told (λ content. content ≡ None)
      → AnswersFile mode file turns before now told (refusal 4 (codes "missing: " ++ file))
  too_large : now ≡ before → IfSome told IsTooLarge → AnswersFile mode file turns before now told (refusal 10 (codes "too large: " ++ file))
  read_fault : Rose before now → IfSome told IsThere → AnswersFile mode file turns before now told (refusal 4 (codes "read fault: " ++ file))
  read : (bytes : List ℕ) (a : Answer) → now ≡ before → length bytes ≤ size_limit → IfSome told (λ content. content ≡ Some bytes)
      → AnswersBytes mode turns bytes a → AnswersFile mode file turns before now told a

-- the answer to the words, where the files tell these contents or nothing: a read fault comes only where the count of faults
-- rose
pub data Answers (contents : Contents) (words : List (List ℕ)) (before now : ℕ) : Answer → Type 0 where
  to_other_words : ((mode : Mode) (turns : ℕ) (file : List ℕ) → IsCommand words mode turns file → ⊥) → now ≡ before
      → Answers contents words before now (refusal 2 usage)
  to_command : (mode : Mode) (turns : ℕ) (file : List ℕ) (a : Answer) → IsCommand words mode turns file
      → AnswersFile mode file turns before now (told_of contents file) a → Answers contents words before now a

-- ---- statuses

-- the status of work that was done: a script ended, or what was asked for was written; a script stopped; or its turns are spent
abbrev pub IsDone : (status : ℕ) → Type 0
IsDone status = (status ≤ 1) ⊎ (status ≡ 7)

-- the status of a refusal: of the words, of the script, of the reading, of the chunk, or of the file's size
abbrev pub HasRefused : (status : ℕ) → Type 0
HasRefused status = (status ≡ 2) ⊎ (status ≡ 3) ⊎ (status ≡ 4) ⊎ (status ≡ 8) ⊎ (status ≡ 10)

-- an answer for a file has the status of work that was done, or that of a refusal, which has no output
abbrev pub IsProper : Answer → Type 0
IsProper a = IsDone a.status ⊎ (((a.status ≡ 3) ⊎ (a.status ≡ 4) ⊎ (a.status ≡ 8) ⊎ (a.status ≡ 10)) × (a.output ≡ []))

-- what a mode takes: an accepted script all of which is built, or the bytes of a well-formed chunk
abbrev pub IsFit : Mode → List ℕ → Type 0
IsFit modes.Run bytes = (tree : Tree) × IsScript not_run bytes tree
IsFit modes.Compile bytes = (tree : Tree) × IsScript not_compiled bytes tree
IsFit modes.List bytes = (chunk : ChunkOf) × (read_file bytes ≡ IsChunk chunk) × IsWellFormed chunk

-- the status where the mode's work is done
abbrev pub IsDoneBy : Mode → (status : ℕ) → Type 0
IsDoneBy modes.Run status = IsDone status
IsDoneBy modes.Compile status = status ≡ 0
IsDoneBy modes.List status = status ≡ 0

-- the words name a mode and a file that is there, is no larger than a file may be, and holds what the mode takes
pub record HasWork (contents : List ℕ → Option (List ℕ)) (words : List (List ℕ)) (mode : Mode) : Type 0 where
  pub turns : ℕ
  pub file : List ℕ
  pub bytes : List ℕ
  pub words_are : IsCommand words mode turns file
  pub there : contents file ≡ Some bytes
  pub few : length bytes ≤ size_limit
  pub fit : IsFit mode bytes
