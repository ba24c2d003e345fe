-- What holds of every run of code.
use Rattle.std.specs.Prelude.{◌≡◌, ℕ, List}
use Rattle.op_words.specs.Chunks.{ChunkOf}
use Rattle.value_model.specs.declared.event.EventKind.{EventKind}
use Rattle.value_model.specs.declared.event.Reply.{Reply}
use Rattle.value_model.specs.Fresh.{HostFields}
use Rattle.bounded_runs.specs.Runs.{Report}
use Rattle.machine_meaning.specs.Moves.{Look}
use Rattle.machine_meaning.specs.Runs.{MachineRun}

-- a run has at most one report
abbrev pub RunsHaveOneReport : Type 0
RunsHaveOneReport = (chunk : ChunkOf) (host : HostFields) (replies : List Reply) (n : ℕ) (r q : Report EventKind Look) → MachineRun chunk host replies n r → MachineRun chunk host replies n q → r ≡ q
