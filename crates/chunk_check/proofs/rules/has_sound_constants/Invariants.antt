use Rattle.std.proofs.Common.{◌≡◌, drop}
use Rattle.std.specs.List.{list_all}
use Rattle.machine_meaning.specs.Needs as needs
use Rattle.op_words.specs.Chunks.{chunk_of}
use Rattle.chunk_check.proofs.rules.has_sound_constants.Given as goal

abbrev pub invariant-loop-constant : goal.invariant-loop-constant
invariant-loop-constant l =
    list_all (needs.is_sound (chunk_of l.chunk) l.number) (drop l.constant-index l.constants)
    ≡ list_all (needs.is_sound (chunk_of l.chunk) l.number) l.constants
