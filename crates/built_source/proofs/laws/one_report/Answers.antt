use Rattle.std.proofs.Common.{ℕ, List}
use Rattle.built_values.proofs.Runs as runs
use Rattle.built_source.specs.States.{State}
use Rattle.built_source.specs.Steps.{Look, step}
use Rattle.built_source.specs.Runs.{start}
use Rattle.built_source.proofs.laws.one_report.Goals as goal

pub returns : goal.returns
returns c = λ body n r q. runs.one_report (List ℕ) Look State step (start body) n r q
