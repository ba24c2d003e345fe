-- The run of code.
use Rattle.std.specs.Prelude.{ℕ, List}
use Rattle.built_values.specs.Runs.{Report, Reports}
use Rattle.built_machine.specs.declared.code.Constant.{Constant}
use Rattle.built_machine.specs.States.{start}
use Rattle.built_machine.specs.Steps.{Look, step}

-- with at most so many turns the run of the words gives this report
abbrev pub MachineRun : (words : List ℕ) → List Constant → (turns : ℕ) → Report (List ℕ) Look → Type 0
MachineRun words ks n r = Reports (step words ks) start n r
