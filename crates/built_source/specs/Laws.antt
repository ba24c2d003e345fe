-- What holds of every run of a script.
use Rattle.std.specs.Prelude.{◌≡◌, ℕ, List}
use Rattle.syntax_tree.specs.declared.tree.Stat.{Stat}
use Rattle.built_values.specs.Runs.{Report}
use Rattle.built_source.specs.Steps.{Look}
use Rattle.built_source.specs.Runs.{SourceRun}

-- a run has at most one report
abbrev pub RunsHaveOneReport : Type 0
RunsHaveOneReport = (body : List Stat) (n : ℕ) (r q : Report (List ℕ) Look) → SourceRun body n r → SourceRun body n q → r ≡ q
