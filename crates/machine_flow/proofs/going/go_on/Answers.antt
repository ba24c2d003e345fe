use Rattle.machine_world.specs.Parts.{awake, placed}
use Rattle.machine_world.proofs.Going.{runs_on}
use Rattle.machine_flow.proofs.Steps.{then}
use Rattle.machine_flow.proofs.going.go_on.Goals as goal

pub go-requires-clause-runs : goal.go-requires-clause-runs
go-requires-clause-runs c = runs_on c.awake.new.self.stack c.awake.ensures.goes

pub returns-clause-gone : goal.returns-clause-gone
returns-clause-gone c =
    let w = c.args.world.now in
    let k = c.args.machine.now in
    then w w w k.code c.awake.new.self.code k.stack c.awake.new.self.stack c.go.new.self.stack awake (placed c.args.place) c.awake.ensures.code c.awake.ensures.awake c.go.ensures.placed

pub returns-clause-goes : goal.returns-clause-goes
returns-clause-goes c = c.go.ensures.frames c.awake.ensures.goes
