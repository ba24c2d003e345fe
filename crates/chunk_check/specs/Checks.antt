-- What the checker answers.
use Rattle.std.specs.Prelude.{◌≡◌, Result, Ok, Err, Some}
use Rattle.op_words.specs.Chunks.{ChunkOf}
use Rattle.machine_meaning.specs.WellFormed.{IsWellFormed, code_fault}
use Rattle.chunk_check.specs.declared.error.CheckErr.{CheckErr}
use Rattle.chunk_check.specs.declared.error.CheckErr.TheVariants.{BadCode, OutOfMemory}

-- the chunk itself, where it is well formed; else the first broken rule, by function, place and rule. Memory may run out
abbrev pub Checks : ChunkOf → Result ChunkOf CheckErr → Type 0
Checks chunk (Ok checked) = (checked ≡ chunk) × IsWellFormed chunk
Checks chunk (Err (BadCode proto place rule)) =
    ¬ IsWellFormed chunk × (code_fault chunk ≡ Some (record { proto = proto; place = place; rule = rule }))
Checks chunk (Err OutOfMemory) = Unit {0}
