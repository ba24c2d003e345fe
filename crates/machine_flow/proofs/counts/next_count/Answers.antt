use Rattle.std.proofs.lemmas.Int.{to_z-of_z}
use Rattle.std.proofs.Common.{◌≡◌, to_z, of_z, w16, refl, sym, ◌∙◌, ap}
use Rattle.value_model.specs.Loops.{Range as WithRange}
use Rattle.op_words.specs.declared.insn.Insn.TheVariants.{ForNLoop}
use Rattle.machine_meaning.specs.Effects.{added, charged}
use Rattle.machine_meaning.specs.States.{Run}
use Rattle.machine_world.specs.Parts.{part, read_of}
use Rattle.machine_world.proofs.Going.{runs_on}
use Rattle.machine_world.proofs.Here.{read_here, row_like}
use Rattle.machine_flow.specs.Counts.{bounds_at, no_bounds}
use Rattle.machine_flow.proofs.Counting.{bounds_fail, count_charges}
use Rattle.machine_flow.proofs.counts.next_count.Goals as goal

pub returns-in-Failed-clause-charges : goal.returns-in-Failed-clause-charges
returns-in-Failed-clause-charges c = λ chunk words.
    let k = c.args.machine.now in
    count_charges c.args.world.now k.code k.stack chunk words c.args.base c.args.by c.args.next (runs_on k.stack c.requires.goes)

pub returns-in-Range-clause-charges : goal.returns-in-Range-clause-charges
returns-in-Range-clause-charges c = λ chunk words.
    let k = c.args.machine.now in
    count_charges c.args.world.now k.code k.stack chunk words c.args.base c.args.by c.args.next (runs_on k.stack c.requires.goes)

pub returns-in-Failed-clause-makes : goal.returns-in-Failed-clause-makes
returns-in-Failed-clause-makes c =
    let w = c.args.world.now in
    let k = c.args.machine.now in
    bounds_fail w k.code k.stack (charged (ForNLoop c.args.base c.args.by) c.args.next) (λ b. added b c.args.base c.args.by c.args.next) c.args.base c.in-Failed.failure (runs_on k.stack c.requires.goes) c.in-Failed.ensures
    (λ f fs v. refl) (λ x f fs v. refl) (λ x f fs v. refl)

pub returns-in-Range-clause-makes : goal.returns-in-Range-clause-makes
returns-in-Range-clause-makes c =
    let w = c.args.world.now in
    let k = c.args.machine.now in
    let i = c.in-Range.index in
    let l = c.in-Range.limit in
    let s = c.in-Range.step in
    row_like w w k.code k.stack c.turn_to.new.machine.stack (charged (ForNLoop c.args.base c.args.by) c.args.next) (added (WithRange i l s) c.args.base (to_z w16 (of_z w16 c.args.by)) c.args.next) Run (runs_on k.stack c.requires.goes) (c.turn_to.ensures.makes i c.further-turn.ensures)
    (λ replies h.
    let fact : WithRange i l s ≡ read_of no_bounds (bounds_at c.args.base) (part w k.code k.stack Run replies) = c.in-Range.ensures Run replies in
    ap (λ b. added b c.args.base c.args.by c.args.next h.frame h.others h.world) (sym (read_here h no_bounds (bounds_at c.args.base) Run (WithRange i l s) fact))
    ∙ ap (λ z. added (WithRange i l s) c.args.base z c.args.next h.frame h.others h.world) (sym (to_z-of_z w16 c.args.by c.ranges.by)))
