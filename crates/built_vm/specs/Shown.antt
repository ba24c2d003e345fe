-- What is shown of a run when it is over.
use Rattle.std.specs.Prelude.{◌≡◌, ℕ, List, [], ◌∷◌, ◌++◌}
use Rattle.std.specs.List.{flat_map}
use Rattle.built_values.specs.Runs.{Stamped, Report}
use Rattle.built_machine.specs.Steps.{Look}
use Rattle.built_vm.specs.declared.running.Ran.{Ran}

-- a text, and the line feed behind it
abbrev pub line_of : List ℕ → List ℕ
line_of text = text ++ 10 ∷ []

-- the lines of the events, one after another
abbrev pub lines_of : List (Stamped (List ℕ)) → List ℕ
lines_of events = flat_map (λ e. line_of e.event) events

-- the output and the end are those of the report
pub record Shows (ran : Ran) (r : Report (List ℕ) Look) : Type 0 where
  pub output : ran.output.items ≡ lines_of r.events
  pub end : ran.end ≡ r.end
