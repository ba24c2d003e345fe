-- The run of a script.
use Rattle.std.specs.Prelude.{ℕ, List, [], ◌∷◌}
use Rattle.syntax_tree.specs.declared.tree.FuncBody.{out-FuncBody}
use Rattle.syntax_tree.specs.declared.tree.Tree.{Tree}
use Rattle.value_model.specs.Values.{Bytes}
use Rattle.value_model.specs.declared.event.EventKind.{EventKind}
use Rattle.value_model.specs.declared.event.Reply.{Reply}
use Rattle.value_model.specs.Fresh.{HostFields, fresh_objects, first_waits}
use Rattle.bounded_runs.specs.Runs.{Report, Reports}
use Rattle.source_meaning.specs.States.{ExecuteAll, State}
use Rattle.source_meaning.specs.Moves.{Look}
use Rattle.source_meaning.specs.Steps.{step}

-- The start of a script: its main function runs, and takes no arguments
abbrev pub start : Tree → HostFields → List Reply → State
start tree host replies = record {
  focus = ExecuteAll (out-FuncBody tree.main).body;
  functions = record { frames = []; env = []; closure = 0; varargs = [] } ∷ [];
  world = record { objects = fresh_objects host (record { func = tree.main; env = [] }); waits = first_waits; elsewhere = λ co. []; given = []; replies = replies };
}

-- with at most so many turns the script's run gives this report. The texts are those of its names and strings
abbrev pub SourceRun : (texts : List Bytes) → Tree → HostFields → List Reply → (turns : ℕ) → Report EventKind Look → Type 0
SourceRun texts tree host replies n r = Reports (step texts) (start tree host replies) n r
