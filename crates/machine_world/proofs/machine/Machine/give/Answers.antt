use Rattle.value_model.specs.Parts.{meant}
use Rattle.machine_world.proofs.Going.{give_makes}
use Rattle.machine_world.proofs.machine.Machine.give.Goals as goal

pub returns-clause-makes : goal.returns-clause-makes
returns-clause-makes c =
    let w = c.args.world.now in
    let m = c.args.self.now in
    give_makes w m.code c.write.new.self.code m.stack c.write.new.self.stack c.go.new.self.stack c.args.to c.args.next (meant w.names c.args.v) c.write.ensures.code c.write.ensures.written c.go.ensures.placed c.requires.goes
