-- How far a script comes in a slice of its run.
use Rattle.std.specs.Prelude.{◌≡◌, ℕ, ◌+◌, List}
use Rattle.value_model.specs.Waits.{End}
use Rattle.value_model.specs.declared.event.EventKind.{EventKind}
use Rattle.bounded_runs.specs.Runs.{Charges, Ends, Stamped}
use Rattle.op_words.specs.Chunks.{ChunkOf}
use Rattle.machine_meaning.specs.States.{State}
use Rattle.machine_meaning.specs.Steps.{step}
use Rattle.checked_runs.specs.Safe.{IsSafe}
use Rattle.run_paths.specs.Paths.{Keeps}
use Rattle.machine_rows.specs.Leading.{looks}

-- Behind so many turns, moves of the machine lead from one state to another. They spend so many turns, show these events and ask so many
-- tables; and where the one state is safe the other is
abbrev pub Advances : ChunkOf → (spent : ℕ) → (from : State) → (turns : ℕ) → List (Stamped EventKind) → (tables : ℕ) → (to : State) → Type 0
Advances chunk spent s turns events tables t = Keeps (step chunk) (IsSafe chunk) spent s turns events (looks tables) t

-- or they lead to the end of the run
pub record AdvancesToEnd (chunk : ChunkOf) (spent : ℕ) (from : State) (turns : ℕ) (events : List (Stamped EventKind)) (tables : ℕ) (end : End) : Type 0 where
  pub last : State
  pub before : ℕ
  pub then : ℕ
  pub all : before + then ≡ tables
  pub advances : Advances chunk spent from turns events before last
  pub ends : step chunk last ≡ Ends (looks then) end

-- a turn is charged next
pub record IsAtCharge (chunk : ChunkOf) (s : State) : Type 0 where
  pub next : State
  pub charges : step chunk s ≡ Charges next
