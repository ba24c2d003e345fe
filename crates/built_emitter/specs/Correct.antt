-- What the compiler promises.
use Rattle.std.specs.Prelude.{◌≡◌, ◌≢◌, ℕ, List, None}
use Rattle.syntax_tree.specs.declared.bindings.Bindings.{Bindings}
use Rattle.syntax_tree.specs.declared.tree.FuncBody.{out-FuncBody}
use Rattle.syntax_tree.specs.declared.tree.Stat.{Stat}
use Rattle.syntax_tree.specs.declared.tree.Tree.{Tree}
use Rattle.built_values.specs.declared.end.End.TheVariants.{Stuck}
use Rattle.built_values.specs.Runs.{Report, Agree}
use Rattle.built_source.specs.Steps as source
use Rattle.built_source.specs.Runs.{SourceRun}
use Rattle.built_machine.specs.declared.code.Constant.{Constant}
use Rattle.built_machine.specs.Steps as machine
use Rattle.built_machine.specs.Runs.{MachineRun}
use Rattle.built_emitter.specs.Standing.{IsBound}
use Rattle.built_emitter.specs.Unbuilt.{first_unbuilt}

-- each table that is asked counts one
abbrev pub SameRun : Report (List ℕ) source.Look → Report (List ℕ) machine.Look → Type 0
SameRun r q = Agree (λ look. 1) (λ look. 1) r q

-- with each bound on the turns, the code ends as the script does and shows the same at the same turns, and there is such an end,
-- at which the script has not come to where it has no rule
pub record Behaves (body : List Stat) (words : List ℕ) (ks : List Constant) : Type 0 where
  pub to_code : (n : ℕ) (r : Report (List ℕ) source.Look) → SourceRun body n r → (q : Report (List ℕ) machine.Look) × MachineRun words ks n q × SameRun r q
  pub to_source : (n : ℕ) (q : Report (List ℕ) machine.Look) → MachineRun words ks n q → (r : Report (List ℕ) source.Look) × SourceRun body n r × SameRun r q
  pub ends : (n : ℕ) → (r : Report (List ℕ) source.Look) × SourceRun body n r
  pub sound : (n : ℕ) (r : Report (List ℕ) source.Look) → SourceRun body n r → r.end ≢ Stuck

-- Each script all of whose nodes are built has a report with each bound on its turns, and is not stuck there.
abbrev pub RunsHaveReports : Type 0
RunsHaveReports =
    (tree : Tree) (b : Bindings) → IsBound tree b → first_unbuilt b (out-FuncBody tree.main).body ≡ None → (n : ℕ) →
    (r : Report (List ℕ) source.Look) × SourceRun (out-FuncBody tree.main).body n r × (r.end ≢ Stuck)
