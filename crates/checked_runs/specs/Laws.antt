-- What holds of runs of well-formed code.
use Rattle.std.specs.Prelude.{◌≡◌, ◌≢◌, ℕ, List, ◌∷◌, Some, true}
use Rattle.op_words.specs.Chunks.{ChunkOf}
use Rattle.value_model.specs.declared.event.EventKind.{EventKind}
use Rattle.value_model.specs.declared.event.Reply.{Reply}
use Rattle.value_model.specs.Fresh.{HostFields}
use Rattle.value_model.specs.Waits.{Stuck}
use Rattle.bounded_runs.specs.Runs.{Report}
use Rattle.machine_meaning.specs.WellFormed.{IsWellFormed}
use Rattle.machine_meaning.specs.States.{Frame, State}
use Rattle.machine_meaning.specs.Moves.{Look}
use Rattle.machine_meaning.specs.Steps.{step}
use Rattle.machine_meaning.specs.Runs.{loaded, MachineRun}
use Rattle.checked_runs.specs.Safe.{IsSafe, IsSafeMove}
use Rattle.checked_runs.specs.Operands.{HasOperands, is_within, reached}

-- a run of well-formed code begins in a safe state
abbrev pub LoadedIsSafe : Type 0
LoadedIsSafe = (chunk : ChunkOf) → IsWellFormed chunk → (host : HostFields) (replies : List Reply) → IsSafe chunk (loaded chunk host replies)

-- from a safe state there is a rule for what is done, and it leads to a safe state
abbrev pub StepsStaySafe : Type 0
StepsStaySafe = (chunk : ChunkOf) → IsWellFormed chunk → (s : State) → IsSafe chunk s → IsSafeMove chunk (step chunk s)

-- so no run of well-formed code ends for lack of a rule, whatever the bound on its turns
abbrev pub CodeIsNeverStuck : Type 0
CodeIsNeverStuck =
    (chunk : ChunkOf) → IsWellFormed chunk → (host : HostFields) (replies : List Reply) (n : ℕ) (r : Report EventKind Look)
    → MachineRun chunk host replies n r → r.end ≢ Stuck

-- each state that a run of well-formed code comes to is safe
abbrev pub ReachedIsSafe : Type 0
ReachedIsSafe =
    (chunk : ChunkOf) → IsWellFormed chunk → (host : HostFields) (replies : List Reply) (moves : ℕ) (s : State)
    → reached chunk host replies moves ≡ Some s → IsSafe chunk s

-- where the innermost function of a safe state is at its instruction there is one, and all that it names is there: each register is the
-- function's own, each constant is of the kind that is wanted, and each jump leads to an instruction
abbrev pub OperandsAreThere : Type 0
OperandsAreThere = (chunk : ChunkOf) → IsWellFormed chunk → (s : State) → IsSafe chunk s → is_within s.focus ≡ true → (f : Frame) (fs : List Frame)
    → s.functions ≡ f ∷ fs → HasOperands chunk f
