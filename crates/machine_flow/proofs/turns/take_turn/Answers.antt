use Rattle.std.proofs.Common.{to_z, of_z, w16, ◌≡◌, ◌+◌, ◌-◌, ◌++◌, ◌+ℤ◌, pos, true, false, length, map, take, replicate, vec_len, sym, ◌∙◌, ap, subst}
use Rattle.std.specs.List.{AllByRecursion}
use Rattle.std.proofs.lemmas.Int.{to_z-of_z}
use Rattle.value_model.specs.Parts.{meant}
use Rattle.value_model.specs.declared.value.Value.TheVariants.{Nil}
use Rattle.luau_tables.specs.Worlds.{MayUseIn}
use Rattle.call_frames.specs.declared.frame.ReturnKind.TheVariants.{Turn}
use Rattle.machine_meaning.specs.States.{set, set_all}
use Rattle.machine_world.specs.Rows.{takes, place_here}
use Rattle.machine_world.specs.Sound.{Back}
use Rattle.machine_world.proofs.Here.{runs_waiting}
use Rattle.machine_flow.specs.Flow.{HasRange, ends, first, gone}
use Rattle.machine_flow.proofs.Steps.{runs_same, then, row_on, receives}
use Rattle.machine_flow.proofs.Gathered.{first_usable, all_resized}
use Rattle.machine_flow.proofs.Generated.{turned_ends, turn_there}
use Rattle.machine_flow.proofs.turns.take_turn.Goals as goal

pub go_on-requires-clause-runs : goal.go_on-requires-clause-runs
go_on-requires-clause-runs c = runs_waiting c.args.machine.now.stack (Turn c.args.base c.args.variables c.args.by c.args.next) c.requires.waits

pub go_on-requires-2-clause-runs : goal.go_on-requires-2-clause-runs
go_on-requires-2-clause-runs c =
    runs_same c.args.machine.now.stack c.set_turn.new.machine.stack c.set_turn.ensures.frames (runs_waiting c.args.machine.now.stack (Turn c.args.base c.args.variables c.args.by c.args.next) c.requires.waits)

pub set_turn-requires-clause-usable : goal.set_turn-requires-clause-usable
set_turn-requires-clause-usable c =
    let w = c.args.world.now in
    let vs = c.args.values.now.items in
    subst (AllByRecursion (MayUseIn w)) (sym (c.as_slice-3.ensures.value ∙ c.in_ok-resize.ensures.items)) (all_resized (MayUseIn w) c.args.variables (c.args.variables - vec_len c.args.values.now) vs (tt, tt) c.requires.usable)

pub set_turn-requires-clause-has : goal.set_turn-requires-clause-has
set_turn-requires-clause-has c =
    subst (λ n. HasRange c.args.machine.now.stack c.args.base (3 + n)) (sym (c.as_slice-3.ensures.len ∙ c.in_ok-resize.ensures.len)) c.requires.has

pub set_turn-requires-clause-control : goal.set_turn-requires-clause-control
set_turn-requires-clause-control c =
    let w = c.args.world.now in
    subst (MayUseIn w) (sym (c.first-control.ensures ∙ ap first c.as_slice-2.ensures.value)) (first_usable (MayUseIn w) c.args.values.now.items (tt, tt) c.requires.usable)

pub back-to-requires : goal.back-to-requires
back-to-requires c =
    subst (λ p. Back p (to_z w16 (of_z w16 c.args.by))) (sym c.place.ensures) (subst (Back (place_here c.args.machine.now.stack)) (sym (to_z-of_z w16 c.args.by c.ranges.by)) c.requires.back)

pub returns-then-ends-clause-makes : goal.returns-then-ends-clause-makes
returns-then-ends-clause-makes c =
    let w = c.args.world.now in
    let k = c.args.machine.now in
    let items = c.args.values.now.items in
    let vs = map (meant w.names) items in
    let kind = Turn c.args.base c.args.variables c.args.by c.args.next in
    let none : ends items ≡ true = ap ends (sym c.as_slice.ensures.value) ∙ sym c.ends.ensures ∙ c.if-ends.true in
    row_on w w k.code k.stack c.go_on.new.machine.stack (takes vs) (λ i. i) c.args.next (runs_waiting k.stack kind c.requires.waits) c.go_on.ensures.gone
    (λ replies h. receives h kind vs c.requires.waits ∙ turned_ends w.names items c.args.base c.args.variables c.args.by c.args.next h.frame h.others h.world none)

pub returns-clause-makes : goal.returns-clause-makes
returns-clause-makes c =
    let w = c.args.world.now in
    let k = c.args.machine.now in
    let items = c.args.values.now.items in
    let vs = map (meant w.names) items in
    let us = c.as_slice-3.result.now in
    let kind = Turn c.args.base c.args.variables c.args.by c.args.next in
    let x = c.args.variables in
    let to = c.back-to.result in
    let some : ends items ≡ false = ap ends (sym c.as_slice.ensures.value) ∙ sym c.ends.ensures ∙ c.if-ends.false in
    let many : vec_len c.args.values.now ≡ length items = sym c.as_slice.ensures.len ∙ ap length c.as_slice.ensures.value in
    let all : us ≡ take x items ++ replicate (x - length items) Nil = c.as_slice-3.ensures.value ∙ c.in_ok-resize.ensures.items ∙ ap (λ k. take x items ++ replicate (x - k) Nil) many in
    row_on w w k.code k.stack c.go_on-2.new.machine.stack (takes vs) (λ i. set_all (c.args.base + 3) (map (meant w.names) us) (set (c.args.base + 2) (meant w.names c.first-control.result) i)) to (runs_waiting k.stack kind c.requires.waits)
    (then w w w k.code c.set_turn.new.machine.code k.stack c.set_turn.new.machine.stack c.go_on-2.new.machine.stack (λ i. set_all (c.args.base + 3) (map (meant w.names) us) (set (c.args.base + 2) (meant w.names c.first-control.result) i)) (gone to) c.set_turn.ensures.code c.set_turn.ensures.written c.go_on-2.ensures.gone)
    (λ replies h. receives h kind vs c.requires.waits
    ∙ turn_there w.names items us c.first-control.result c.args.base x to c.args.by c.args.next h.frame h.others h.world some all (c.first-control.ensures ∙ ap first c.as_slice-2.ensures.value)
    (c.back-to.ensures ∙ ap (λ p. pos (p + 1) +ℤ to_z w16 (of_z w16 c.args.by)) (c.place.ensures ∙ sym h.place) ∙ ap (λ z. pos (h.frame.place + 1) +ℤ z) (to_z-of_z w16 c.args.by c.ranges.by)))
