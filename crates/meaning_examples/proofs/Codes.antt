-- Chunks, with what their runs show.
use Rattle.std.proofs.Common.{ℕ, List, [], map, length, Some, Bool}
use Rattle.std.specs.Prelude.{option_map}
use Rattle.op_words.specs.Chunks.{ChunkOf, ProtoOf}
use Rattle.op_words.specs.declared.chunk.Const.{Const}
use Rattle.value_model.specs.declared.event.EventKind.{EventKind}
use Rattle.value_model.specs.Fresh.{NoField}
use Rattle.value_model.specs.Values.{Bytes}
use Rattle.value_model.specs.Waits.{End}
use Rattle.bounded_runs.specs.Runs.{Report, Stamped, run}
use Rattle.machine_meaning.specs.Moves.{Look}
use Rattle.machine_meaning.specs.Runs.{loaded}
use Rattle.machine_meaning.specs.Steps.{step}
use Rattle.machine_meaning.specs.WellFormed.{CodeFault, code_faults}
use Rattle.meaning_examples.proofs.Scripts.{Shown, stamped}

-- a chunk, a bound on its turns, how many moves its run has, how it ends, its lines, each with the turns spent before it, and how
-- many tables it asks
pub record Code : Type 0 where
  pub chunk : ChunkOf
  pub turns : ℕ
  pub moves : ℕ
  pub end : End
  pub lines : List (ℕ × Bytes)
  pub looks : ℕ

abbrev pub proto : (registers params upvalues : ℕ) → Bool → List ℕ → List Const → List ℕ → ProtoOf
proto r n u v code ks children =
    record { registers = r; params = n; upvalues = u; vararg = v; code = code; consts = ks; children = children }

abbrev pub what : Report EventKind Look → End × List (Stamped EventKind) × ℕ
what r = (r.end, r.events, length r.notes)

-- what its run shows
abbrev pub outcome : Code → Shown
outcome c = option_map what (run (step c.chunk) c.moves c.turns 0 [] [] (loaded c.chunk NoField []))

abbrev pub wanted : Code → Shown
wanted c = Some (c.end, map stamped c.lines, c.looks)

abbrev pub faults : Code → List CodeFault
faults c = code_faults c.chunk
