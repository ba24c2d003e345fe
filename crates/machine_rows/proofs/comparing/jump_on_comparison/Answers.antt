use Rattle.std.proofs.Common.{w16, ◌∙◌, subst}
use Rattle.std.proofs.lemmas.Int.{to_z-of_z}
use Rattle.value_model.specs.Choices.{Compare}
use Rattle.value_model.specs.Parts.{meant}
use Rattle.value_model.specs.Values as m
use Rattle.meta_ops.specs.Outcomes.{meant_outcome}
use Rattle.machine_meaning.specs.Instructions.{row}
use Rattle.machine_meaning.specs.Moves.{comes}
use Rattle.machine_meaning.specs.States.{Run, Compares, value_in}
use Rattle.machine_world.specs.Parts.{register_value}
use Rattle.machine_world.proofs.Going.{runs_on}
use Rattle.machine_world.proofs.Here.{read_here}
use Rattle.machine_rows.specs.Leading.{looks, Does}
use Rattle.machine_rows.specs.Operations.{jumps_on}
use Rattle.machine_rows.proofs.Operating.{usable_there, jumps_row, compared_read}
use Rattle.machine_rows.proofs.Steps.{does_like, settled_here}
use Rattle.machine_rows.proofs.comparing.jump_on_comparison.Goals as goal

pub compare-outcome-requires : goal.compare-outcome-requires
compare-outcome-requires c =
    let w = c.args.world.now in
    let own = c.requires.sound.world.own in
    record {
      owned = own.owned;
      strings = own.globals.string_meta;
      a = usable_there w c.read-a.result c.read-a.ensures.usable;
      b = usable_there w c.read-b.result c.read-b.ensures.usable;
      text_a = c.read-a.ensures.usable.1;
      text_b = c.read-b.ensures.usable.1;
    }

pub jump_where-requires-clause-usable : goal.jump_where-requires-clause-usable
jump_where-requires-clause-usable c =
    (c.compare-outcome.ensures c.args.world.now.owner c.requires.sound.world.own (c.read-a.ensures.usable, c.read-b.ensures.usable)).usable

pub returns-clause-makes : goal.returns-clause-makes
returns-clause-makes c = λ chunk words.
    let w = c.args.world.now in
    let k = c.args.machine.now in
    let a = meant w.names c.read-a.result in
    let b = meant w.names c.read-b.result in
    let o = meant_outcome w.names c.compare-outcome.result in
    let p = Compares c.args.wanted c.args.by c.args.next in
    does_like chunk w w k.code k.stack c.jump_where.new.machine.stack (row chunk words (jumps_on c.args.op c.args.wanted c.args.left c.args.by c.args.right) c.args.next) (comes o (looks 0) p) 0 c.jump_where.result (runs_on k.stack c.requires.goes)
    (λ replies h. jumps_row c.args.op c.args.wanted chunk words c.args.left c.args.by c.args.right c.args.next h.frame h.others h.world
    ∙ compared_read c.args.op a b (value_in h.frame h.world c.args.left) (value_in h.frame h.world c.args.right) c.args.wanted c.args.by c.args.next h.frame h.others h.world
    (read_here h m.Nil (register_value c.args.left) Run a (c.read-a.ensures.value Run replies))
    (read_here h m.Nil (register_value c.args.right) Run b (c.read-b.ensures.value Run replies))
    ∙ settled_here h (Compare c.args.op a b) o 0 p (c.compare-outcome.ensures w.owner c.requires.sound.world.own (c.read-a.ensures.usable, c.read-b.ensures.usable)).meant)
    (subst (λ z. Does chunk (comes o (looks 0) (Compares c.args.wanted z c.args.next)) w k.code k.stack 0 c.jump_where.result w c.jump_where.new.machine.stack) (to_z-of_z w16 c.args.by c.ranges.by) (c.jump_where.ensures.makes chunk 0))
