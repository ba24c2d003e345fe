use Rattle.value_model.specs.declared.event.EventKind.{EventKind}
use Rattle.bounded_runs.proofs.OneReport as runs
use Rattle.machine_meaning.specs.States.{State}
use Rattle.machine_meaning.specs.Moves.{Look}
use Rattle.machine_meaning.specs.Steps.{step}
use Rattle.machine_meaning.specs.Runs.{loaded}
use Rattle.machine_meaning.proofs.laws.one_report.Goals as goal

pub returns : goal.returns
returns c = λ chunk host replies n r q. runs.one_report EventKind Look State (step chunk) (loaded chunk host replies) n r q
