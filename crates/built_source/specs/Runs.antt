-- The run of a script.
use Rattle.std.specs.Prelude.{ℕ, List, []}
use Rattle.syntax_tree.specs.declared.tree.Stat.{Stat}
use Rattle.built_values.specs.Runs.{Report, Reports}
use Rattle.built_source.specs.States.{State, ExecuteAll}
use Rattle.built_source.specs.Steps.{Look, step}

-- the start of a script: no variable, no cell
abbrev pub start : List Stat → State
start body = record { focus = ExecuteAll body; frames = []; env = []; cells = [] }

-- with at most so many turns the script's run gives this report
abbrev pub SourceRun : (body : List Stat) → (turns : ℕ) → Report (List ℕ) Look → Type 0
SourceRun body n r = Reports step (start body) n r
