use Rattle.std.proofs.Common.{ℕ, List}
use Rattle.built_values.proofs.Runs as runs
use Rattle.built_machine.specs.States.{State, start}
use Rattle.built_machine.specs.Steps.{Look, step}
use Rattle.built_machine.proofs.laws.one_report.Goals as goal

pub returns : goal.returns
returns c = λ words ks n r q. runs.one_report (List ℕ) Look State (step words ks) start n r q
