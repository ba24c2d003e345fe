use Rattle.machine_world.proofs.Going.{runs_on}
use Rattle.machine_tables.proofs.Made.{new_keeps, new_sound, new_use, new_makes}
use Rattle.machine_tables.proofs.making.new_table.Goals as goal

pub give-requires-clause-sound : goal.give-requires-clause-sound
give-requires-clause-sound c =
    let w = c.args.world.now in
    let k = c.args.machine.now in
    new_sound w k.code k.stack c.requires.sound c.new_table.new.self c.in_ok-id.ensures.made

pub give-requires-clause-usable : goal.give-requires-clause-usable
give-requires-clause-usable c =
    let w = c.args.world.now in
    let k = c.args.machine.now in
    new_use w k.code k.stack c.requires.sound c.new_table.new.self c.in_ok-id.ensures.made c.in_ok-id.id c.in_ok-id.ensures.id c.in_ok-id.ensures.there

pub returns-clause-makes : goal.returns-clause-makes
returns-clause-makes c = λ chunk words.
    let w = c.args.world.now in
    let k = c.args.machine.now in
    new_makes w k.code k.stack c.requires.sound c.new_table.new.self c.in_ok-id.ensures.made c.in_ok-id.id c.in_ok-id.ensures.id c.in_ok-id.ensures.there c.give.new.self.stack c.args.to c.args.next (runs_on k.stack c.requires.goes) c.give.ensures.makes

pub returns-clause-keeps : goal.returns-clause-keeps
returns-clause-keeps c =
    let w = c.args.world.now in
    let k = c.args.machine.now in
    new_keeps w k.code k.stack c.requires.sound c.new_table.new.self c.in_ok-id.ensures.made
