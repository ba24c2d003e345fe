-- What holds of every run of code.
use Rattle.std.specs.Prelude.{◌≡◌, ℕ, List}
use Rattle.built_values.specs.Runs.{Report}
use Rattle.built_machine.specs.declared.code.Constant.{Constant}
use Rattle.built_machine.specs.Steps.{Look}
use Rattle.built_machine.specs.Runs.{MachineRun}

-- a run has at most one report
abbrev pub RunsHaveOneReport : Type 0
RunsHaveOneReport = (words : List ℕ) (ks : List Constant) (n : ℕ) (r q : Report (List ℕ) Look) → MachineRun words ks n r → MachineRun words ks n q → r ≡ q

-- for each bound on its turns a run has a report
abbrev pub RunsHaveReports : Type 0
RunsHaveReports = (words : List ℕ) (ks : List Constant) (n : ℕ) → (r : Report (List ℕ) Look) × MachineRun words ks n r
