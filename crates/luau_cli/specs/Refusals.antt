-- Why and where scripts and chunks are refused.
use Rattle.std.specs.Prelude.{◌≡◌, ℕ, List, [], ◌++◌, Option, Some, None, codes, unwrap_or}
use Rattle.std.specs.Fmt.{decimal}
use Rattle.op_words.specs.Chunks.{ChunkOf}
use Rattle.syntax_tree.specs.declared.tree.FuncBody.{out-FuncBody}
use Rattle.syntax_tree.specs.declared.tree.Stat.{Stat}
use Rattle.syntax_tree.specs.declared.tree.Tree.{Tree}
use Rattle.syntax_tree.specs.Accepts.{Accepts}
use Rattle.syntax_tree.specs.Bound.{bound}
use Rattle.syntax_tree.specs.Causes.{refusal_text}
use Rattle.syntax_tree.specs.Tokens.{texts_after}
use Rattle.byte_text.specs.Texts.{fixed_texts}
use Rattle.built_emitter.specs.Unbuilt.{first_unbuilt}
use Rattle.unbuilt_nodes.specs.Unbuilt.{unbuilt_in_func}
use Rattle.machine_meaning.specs.WellFormed.{code_fault}
use Rattle.chunk_check.specs.Causes.{rule_named}
use Rattle.chunk_file.specs.Reading.{read_file, IsChunk}
use Rattle.chunk_file.specs.Reading as reading
use Rattle.luau_cli.specs.declared.refusal.ChunkRefusal.{ChunkRefusal}
use Rattle.luau_cli.specs.declared.refusal.ChunkRefusal.TheVariants as chunk
use Rattle.luau_cli.specs.declared.refusal.ScriptErr.{ScriptErr}
use Rattle.luau_cli.specs.declared.refusal.ScriptErr.TheVariants as script

-- ---- scripts

-- the statements of a script
abbrev pub statements : Tree → List Stat
statements tree = (out-FuncBody tree.main).body

-- the texts of an accepted script, by their numbers
abbrev pub texts_of : {bytes : List ℕ} {tree : Tree} → Accepts bytes tree → List (List ℕ)
texts_of a = texts_after fixed_texts a.spelled.spelled

-- the place of the first node of a tree that is not built, by the texts of the script
abbrev pub Unbuilt : Type 0
Unbuilt = Tree → (texts : List (List ℕ)) → Option ℕ

-- for scripts that are run, and for those that are compiled to a chunk
abbrev pub not_run : Unbuilt
not_run tree texts = first_unbuilt (bound tree) (statements tree)

abbrev pub not_compiled : Unbuilt
not_compiled tree texts = unbuilt_in_func texts (bound tree) tree.main

-- an accepted script all of whose nodes are built
pub record IsScript (unbuilt : Unbuilt) (bytes : List ℕ) (tree : Tree) : Type 0 where
  pub accepted : Accepts bytes tree
  pub built : unbuilt tree (texts_of accepted) ≡ None

-- why a script is refused by its name and number, and the place
abbrev pub error_text : ScriptErr → List ℕ
error_text (script.Refused why) = refusal_text why
error_text (script.NotBuilt at) = codes "NotBuilt 60 at " ++ decimal at

-- ---- chunks

-- why bytes are no chunk that can be used: their first wrong field, or the first rule that the code of the chunk breaks
abbrev pub IsChunkRefused : List ℕ → ChunkRefusal → Type 0
IsChunkRefused bytes (chunk.Truncated at) = read_file bytes ≡ reading.Truncated at
IsChunkRefused bytes (chunk.BadMagic at) = read_file bytes ≡ reading.BadMagic at
IsChunkRefused bytes (chunk.BadVersion at) = read_file bytes ≡ reading.BadVersion at
IsChunkRefused bytes (chunk.BadField at) = read_file bytes ≡ reading.BadField at
IsChunkRefused bytes (chunk.Trailing at) = read_file bytes ≡ reading.Trailing at
IsChunkRefused bytes (chunk.BadCode proto place rule) =
    (c : ChunkOf) × (read_file bytes ≡ IsChunk c) × (code_fault c ≡ Some (record { proto = proto; place = place; rule = rule }))

-- the name of a rule; there are no rules but those that have one
abbrev pub rule_text : ℕ → List ℕ
rule_text rule = unwrap_or (rule_named rule) []

abbrev pub chunk_error_text : ChunkRefusal → List ℕ
chunk_error_text (chunk.Truncated at) = codes "Truncated 30 at " ++ decimal at
chunk_error_text (chunk.BadMagic at) = codes "BadMagic 31 at " ++ decimal at
chunk_error_text (chunk.BadVersion at) = codes "BadVersion 32 at " ++ decimal at
chunk_error_text (chunk.BadField at) = codes "BadField 33 at " ++ decimal at
chunk_error_text (chunk.Trailing at) = codes "Trailing 34 at " ++ decimal at
chunk_error_text (chunk.BadCode proto place rule) =
    codes "BadCode 35 at " ++ decimal proto ++ codes ":" ++ decimal place ++ codes " " ++ rule_text rule
