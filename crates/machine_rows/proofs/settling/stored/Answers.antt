use Rattle.std.proofs.Common.{refl}
use Rattle.machine_meaning.specs.Moves.{go}
use Rattle.machine_meaning.specs.States.{Stores}
use Rattle.machine_world.proofs.Going.{runs_on}
use Rattle.machine_world.proofs.Here.{row_passes}
use Rattle.machine_rows.proofs.Following.{taken_at_once}
use Rattle.machine_rows.proofs.settling.stored.Goals as goal

pub go-requires-clause-runs : goal.go-requires-clause-runs
go-requires-clause-runs c = runs_on c.args.machine.now.stack c.requires.goes

pub returns-in-Done-clause-makes : goal.returns-in-Done-clause-makes
returns-in-Done-clause-makes c = λ chunk n.
    let w = c.args.world.now in
    let k = c.args.machine.now in
    taken_at_once chunk w k.code k.stack c.go.new.self.stack c.args.outcome n (Stores c.args.next) (runs_on k.stack c.requires.goes) c.in-Done.field-0 (go c.args.next) c.in-Done.is (λ f fs u. refl)
    (row_passes w k.code k.code k.stack c.go.new.self.stack (go c.args.next) c.args.next c.requires.goes refl c.go.ensures.placed (λ replies h. refl))

pub returns-in-Done-clause-next : goal.returns-in-Done-clause-next
returns-in-Done-clause-next c = c.go.ensures.frames c.requires.goes

pub settle-requires-clause-runs : goal.settle-requires-clause-runs
settle-requires-clause-runs c = runs_on c.args.machine.now.stack c.requires.goes
