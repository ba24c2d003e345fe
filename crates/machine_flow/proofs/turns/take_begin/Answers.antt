use Rattle.std.proofs.Common.{to_z, of_z, w16, true, map, sym, ◌∙◌, ap, subst}
use Rattle.std.proofs.lemmas.Int.{to_z-of_z}
use Rattle.value_model.specs.Parts.{meant}
use Rattle.value_model.specs.declared.value.Value.TheVariants.{Nil}
use Rattle.value_model.specs.Loops.{Generates}
use Rattle.luau_tables.specs.Worlds.{MayUseIn}
use Rattle.call_frames.specs.declared.frame.ReturnKind.TheVariants.{Iterate}
use Rattle.machine_meaning.specs.Moves.{branch, first, rest}
use Rattle.machine_meaning.specs.Effects.{iterated, with_generator}
use Rattle.machine_world.specs.Parts.{awake}
use Rattle.machine_world.specs.Rows.{Makes, takes, place_here}
use Rattle.machine_world.specs.Sound.{Ahead}
use Rattle.machine_world.proofs.Going.{runs_on}
use Rattle.machine_world.proofs.Here.{runs_waiting}
use Rattle.machine_world.proofs.Written.{all_get}
use Rattle.machine_flow.proofs.Steps.{runs_same, then, row_behind, receives, place_awake}
use Rattle.machine_flow.proofs.Rows.{place_same}
use Rattle.machine_flow.proofs.Generated.{first_three, begun_there}
use Rattle.machine_flow.proofs.turns.take_begin.Goals as goal

pub set_three-requires-clause-first : goal.set_three-requires-clause-first
set_three-requires-clause-first c =
    subst (MayUseIn c.args.world.now) (sym c.at-generator.ensures) (all_get (MayUseIn c.args.world.now) c.args.values.now 0 Nil c.requires.usable (tt, tt))

pub set_three-requires-clause-second : goal.set_three-requires-clause-second
set_three-requires-clause-second c =
    subst (MayUseIn c.args.world.now) (sym c.at-state.ensures) (all_get (MayUseIn c.args.world.now) c.args.values.now 1 Nil c.requires.usable (tt, tt))

pub set_three-requires-clause-third : goal.set_three-requires-clause-third
set_three-requires-clause-third c =
    subst (MayUseIn c.args.world.now) (sym c.at-control.ensures) (all_get (MayUseIn c.args.world.now) c.args.values.now 2 Nil c.requires.usable (tt, tt))

pub awake-requires-clause-runs : goal.awake-requires-clause-runs
awake-requires-clause-runs c =
    runs_same c.args.machine.now.stack c.set_three.new.machine.stack c.set_three.ensures.frames (runs_waiting c.args.machine.now.stack (Iterate c.args.base c.args.by) c.requires.waits)

pub jump_where-requires-clause-ahead : goal.jump_where-requires-clause-ahead
jump_where-requires-clause-ahead c =
    let w = c.args.world.now in
    let k = c.args.machine.now in
    let s1 = c.set_three.new.machine.stack in
    let runs = runs_same k.stack s1 c.set_three.ensures.frames (runs_waiting k.stack (Iterate c.args.base c.args.by) c.requires.waits) in
    let place = place_awake w c.set_three.new.machine.code s1 c.awake.new.self.stack runs (runs_on c.awake.new.self.stack c.awake.ensures.goes) c.awake.ensures.awake ∙ place_same k.stack s1 c.set_three.ensures.frames in
    subst (λ p. Ahead p (to_z w16 (of_z w16 c.args.by))) (sym place) (subst (Ahead (place_here k.stack)) (sym (to_z-of_z w16 c.args.by c.ranges.by)) c.requires.ahead)

pub returns-clause-makes : goal.returns-clause-makes
returns-clause-makes c =
    let w = c.args.world.now in
    let k = c.args.machine.now in
    let vs = map (meant w.names) c.args.values.now in
    let kind = Iterate c.args.base c.args.by in
    let g = meant w.names c.at-generator.result in
    let s = meant w.names c.at-state.result in
    let v = meant w.names c.at-control.result in
    let s1 = c.awake.new.self.stack in
    let s2 = c.jump_where.new.self.stack in
    let by = to_z w16 (of_z w16 c.args.by) in
    let are = first_three w.names c.args.values.now in
    row_behind w w w k.code k.stack s1 s2 (takes vs) (branch true by 0) (λ i. awake (with_generator c.args.base g s v i)) (runs_waiting k.stack kind c.requires.waits)
    (then w w w k.code c.set_three.new.machine.code k.stack c.set_three.new.machine.stack s1 (with_generator c.args.base g s v) awake c.set_three.ensures.code c.set_three.ensures.written c.awake.ensures.awake)
    (subst (λ code. Makes (branch true by 0) w code s1 w s2) (c.awake.ensures.code ∙ c.set_three.ensures.code) c.jump_where.ensures.makes)
    (λ replies h. receives h kind vs c.requires.waits
    ∙ ap (λ u. iterated (Generates u (first (rest vs)) (first (rest (rest vs)))) c.args.base c.args.by h.frame h.others h.world) (are.0 ∙ sym (ap (meant w.names) c.at-generator.ensures))
    ∙ ap (λ u. iterated (Generates g u (first (rest (rest vs)))) c.args.base c.args.by h.frame h.others h.world) (are.1 ∙ sym (ap (meant w.names) c.at-state.ensures))
    ∙ ap (λ u. iterated (Generates g s u) c.args.base c.args.by h.frame h.others h.world) (are.2 ∙ sym (ap (meant w.names) c.at-control.ensures))
    ∙ ap (λ z. iterated (Generates g s v) c.args.base z h.frame h.others h.world) (sym (to_z-of_z w16 c.args.by c.ranges.by))
    ∙ begun_there g s v c.args.base by h.frame h.others h.world)
