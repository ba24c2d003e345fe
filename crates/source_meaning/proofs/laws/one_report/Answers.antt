use Rattle.value_model.specs.declared.event.EventKind.{EventKind}
use Rattle.bounded_runs.proofs.OneReport as runs
use Rattle.source_meaning.specs.States.{State}
use Rattle.source_meaning.specs.Moves.{Look}
use Rattle.source_meaning.specs.Steps.{step}
use Rattle.source_meaning.specs.Runs.{start}
use Rattle.source_meaning.proofs.laws.one_report.Goals as goal

pub returns : goal.returns
returns c = λ texts tree host replies n r q. runs.one_report EventKind Look State (step texts) (start tree host replies) n r q
