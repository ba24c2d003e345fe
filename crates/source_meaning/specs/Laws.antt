-- What holds of every run of a script.
use Rattle.std.specs.Prelude.{◌≡◌, ℕ, List}
use Rattle.syntax_tree.specs.declared.tree.Tree.{Tree}
use Rattle.value_model.specs.declared.event.EventKind.{EventKind}
use Rattle.value_model.specs.declared.event.Reply.{Reply}
use Rattle.value_model.specs.Fresh.{HostFields}
use Rattle.value_model.specs.Values.{Bytes}
use Rattle.bounded_runs.specs.Runs.{Report}
use Rattle.source_meaning.specs.Moves.{Look}
use Rattle.source_meaning.specs.Runs.{SourceRun}

-- a run has at most one report
abbrev pub RunsHaveOneReport : Type 0
RunsHaveOneReport = (texts : List Bytes) (tree : Tree) (host : HostFields) (replies : List Reply) (n : ℕ) (r q : Report EventKind Look) → SourceRun texts tree host replies n r → SourceRun texts tree host replies n q → r ≡ q
