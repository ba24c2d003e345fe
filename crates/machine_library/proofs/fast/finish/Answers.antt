use Rattle.std.proofs.Common.{map, refl, sym}
use Rattle.value_model.specs.Parts.{meant}
use Rattle.machine_meaning.specs.Moves.{go}
use Rattle.machine_world.specs.Rows.{Makes}
use Rattle.machine_world.proofs.Here.{row_passes}
use Rattle.std.proofs.Common.{subst}
use Rattle.machine_library.specs.Fast.{call_of, done_or_on}
use Rattle.machine_library.proofs.fast.finish.Goals as goal

pub returns-clause-makes : goal.returns-clause-makes
returns-clause-makes c =
    let w = c.args.world.now in
    let k = c.args.machine.now in
    let vs = map (meant w.names) c.args.values.now.items in
    subst (λ b. Makes (done_or_on b (call_of c.args.call) vs c.args.next) w k.code k.stack w c.go.new.self.stack) (sym c.if-done.false)
    (row_passes w k.code k.code k.stack c.go.new.self.stack (go c.args.next) c.args.next c.requires.goes refl c.go.ensures.placed (λ replies h. refl))
