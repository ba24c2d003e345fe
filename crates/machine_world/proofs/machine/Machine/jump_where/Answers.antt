use Rattle.std.proofs.Common.{to_z, of_z, w16, w32}
use Rattle.std.proofs.lemmas.Int.{to_z-of_z}
use Rattle.std.proofs.Common.{pos, ◌+◌, ◌+ℤ◌, ◌∙◌, ap}
use Rattle.machine_world.specs.Rows.{place_here}
use Rattle.machine_world.proofs.Here.{row_branches}
use Rattle.machine_world.proofs.machine.Machine.jump_where.Goals as goal

pub returns-clause-makes : goal.returns-clause-makes
returns-clause-makes c =
    let w = c.args.world.now in
    let k = c.args.self.now in
    let to = c.ahead.ensures ∙ ap (λ p. pos (p + 1) +ℤ to_z w32 (of_z w32 c.from.result)) c.place.ensures ∙ ap (λ z. pos (place_here k.stack + 1) +ℤ z) (to_z-of_z w32 c.from.result (record { sfits = c.from.type_inv }) ∙ c.from.ensures ∙ to_z-of_z w16 c.args.by c.ranges.by) in
    row_branches w k.code k.stack c.go.new.self.stack c.args.holds c.args.by c.ahead.result c.args.next c.either-to.result c.either-to.ensures c.requires.goes c.requires.ahead to c.go.ensures.placed
