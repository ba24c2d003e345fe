use Rattle.std.proofs.Common.{map, sym, ◌∙◌, ap, subst}
use Rattle.value_model.specs.Parts.{meant}
use Rattle.luau_tables.specs.Worlds.{MayUseIn}
use Rattle.luau_tables.specs.declared.globals.LibWorld.{LibWorld}
use Rattle.meta_ops.specs.Outcomes.{OfOutcome, meant_outcome}
use Rattle.machine_meaning.specs.Moves.{comes, give}
use Rattle.machine_meaning.specs.States.{Joins}
use Rattle.machine_world.specs.declared.machine.Machine.{Machine}
use Rattle.machine_world.specs.Rows.{Makes}
use Rattle.machine_world.specs.Sound.{IsMachine, Runs, GoesOn, HasRegister}
use Rattle.machine_world.proofs.Going.{runs_on}
use Rattle.machine_rows.specs.Leading.{looks, Does}
use Rattle.machine_rows.specs.declared.next.Next.TheVariants.{Continues}
use Rattle.machine_rows.proofs.Growing.{growth_self, growth_on, growth_machine, growth_keeps, growth_use, later_usable}
use Rattle.machine_rows.proofs.Joined.{joins_on, joins_out, joins_none}
use Rattle.machine_rows.proofs.Operating.{usable_there}
use Rattle.machine_rows.proofs.joining.join.Goals as goal

pub concat-requires : goal.concat-requires
concat-requires c =
    let w0 = c.args.world.now in
    let w = c.loop-i.world in
    let inv = c.loop-i.invariant in
    let own = (growth_machine w0 w inv.grown c.args.machine.now.stack c.requires.sound).world.own in
    let before = growth_use w0 w inv.grown c.requires.sound.world c.args.left.now c.loop-i.i c.operand-before.result c.operand-before.ensures c.loop-i-test.true c.requires.left in
    record {
      owned = own.owned;
      strings = own.globals.string_meta;
      a = usable_there w c.operand-before.result before;
      b = usable_there w c.loop-i.joined inv.usable;
      text_a = before.1;
      text_b = inv.usable.1;
    }

pub settle-done-requires : goal.settle-done-requires
settle-done-requires c =
    let w0 = c.args.world.now in
    let w = c.loop-i.world in
    let k = c.args.machine.now in
    let inv = c.loop-i.invariant in
    let names = c.concat.new.names in
    let own = (growth_machine w0 w inv.grown k.stack c.requires.sound).world.own in
    let before = growth_use w0 w inv.grown c.requires.sound.world c.args.left.now c.loop-i.i c.operand-before.result c.operand-before.ensures c.loop-i-test.true c.requires.left in
    let grown = growth_on w0 w names inv.grown c.concat.ensures.extends c.concat.ensures.texts in
    record {
      sound = subst (λ (m : Machine). IsMachine (record w { names = names }) m.stack) (sym inv.same) (growth_machine w0 (record w { names = names }) grown k.stack c.requires.sound);
      runs = subst (λ (m : Machine). Runs m.stack) (sym inv.same) (runs_on k.stack c.requires.goes);
      kind = later_usable w0 (record w { names = names }) grown c.requires.sound.world c.args.left.now c.in_ok-left-in_default.left c.loop-i.i c.in_ok-left-in_default.ensures c.requires.left;
      usable = (c.in_ok-outcome.ensures.joins w.owner own before inv.usable).usable;
    }

pub returns-in_default : goal.returns-in_default
returns-in_default c =
    let w0 = c.args.world.now in
    let w = c.loop-i.world in
    let k = c.args.machine.now in
    let inv = c.loop-i.invariant in
    let names = c.concat.new.names in
    let w' : LibWorld = record w { names = names } in
    let o = c.in_ok-outcome.outcome in
    let s' = c.settle-done.new.machine.stack in
    let rest = c.in_ok-left-in_default.left in
    let is = growth_machine w0 w inv.grown k.stack c.requires.sound in
    let before = growth_use w0 w inv.grown c.requires.sound.world c.args.left.now c.loop-i.i c.operand-before.result c.operand-before.ensures c.loop-i-test.true c.requires.left in
    let first = growth_use w0 w0 (growth_self w0 c.requires.sound.world) c.requires.sound.world c.args.left.now c.loop-i.i c.operand-before.result c.operand-before.ensures c.loop-i-test.true c.requires.left in
    let more = growth_on w w names (growth_self w is.world) c.concat.ensures.extends c.concat.ensures.texts in
    let grown = growth_on w0 w names inv.grown c.concat.ensures.extends c.concat.ensures.texts in
    record {
      makes = λ chunk.
          inv.leads chunk c.settle-done.result w' s'
          (joins_out chunk w0 w w' k.code k.stack s' c.args.left.now c.loop-i.i c.args.to c.args.next c.operand-before.result c.loop-i.joined names o c.settle-done.result (runs_on k.stack c.requires.goes) c.requires.sound c.requires.texts inv.grown more c.requires.left c.loop-i-test.true c.operand-before.ensures first
          (c.in_ok-outcome.ensures.joins w.owner is.world.own before inv.usable) rest c.in_ok-left-in_default.ensures
          (subst (λ (m : Machine). Does chunk (comes (meant_outcome names o) (looks 0) (Joins (map (meant names) rest) c.args.to c.args.next)) w' m.code m.stack 0 c.settle-done.result w' s') inv.same (c.settle-done.ensures.makes chunk 0)));
      sound = c.settle-done.ensures.sound;
      next = c.settle-done.ensures.next;
      keeps = growth_keeps w0 w' grown c.requires.sound.world;
      code = c.settle-done.ensures.code ∙ ap (λ (m : Machine). m.code) inv.same;
    }

pub loop-i-preserved : goal.loop-i-preserved
loop-i-preserved c =
    let w0 = c.args.world.now in
    let w = c.loop-i.world in
    let k = c.args.machine.now in
    let inv = c.loop-i.invariant in
    let names = c.concat.new.names in
    let w' : LibWorld = record w { names = names } in
    let o = c.in_ok-outcome.outcome in
    let is = growth_machine w0 w inv.grown k.stack c.requires.sound in
    let before = growth_use w0 w inv.grown c.requires.sound.world c.args.left.now c.loop-i.i c.operand-before.result c.operand-before.ensures c.loop-i-test.true c.requires.left in
    let first = growth_use w0 w0 (growth_self w0 c.requires.sound.world) c.requires.sound.world c.args.left.now c.loop-i.i c.operand-before.result c.operand-before.ensures c.loop-i-test.true c.requires.left in
    let more = growth_on w w names (growth_self w is.world) c.concat.ensures.extends c.concat.ensures.texts in
    let joined = c.in_ok-outcome.ensures.joins w.owner is.world.own before inv.usable in
    record {
      same = inv.same;
      grown = growth_on w0 w names inv.grown c.concat.ensures.extends c.concat.ensures.texts;
      usable = subst (OfOutcome names (MayUseIn w')) c.in-Done.is joined.usable;
      leads = λ chunk x w2 s2 does.
          inv.leads chunk x w2 s2
          (joins_on chunk w0 w w2 k.code k.stack s2 c.args.left.now c.loop-i.i c.args.to c.args.next c.operand-before.result c.loop-i.joined names o x (runs_on k.stack c.requires.goes) c.requires.sound c.requires.texts inv.grown more c.requires.left c.loop-i-test.true c.operand-before.ensures first joined c.in-Done.v c.in-Done.is does);
    }

pub give-requires : goal.give-requires
give-requires c =
    let w0 = c.args.world.now in
    let inv = c.loop-i.invariant in
    let k = c.args.machine.now in
    record {
      sound = subst (λ (m : Machine). IsMachine c.loop-i.world m.stack) (sym inv.same) (growth_machine w0 c.loop-i.world inv.grown k.stack c.requires.sound);
      goes = subst (λ (m : Machine). GoesOn m.stack) (sym inv.same) c.requires.goes;
      has = subst (λ (m : Machine). HasRegister m.stack c.args.to) (sym inv.same) c.requires.has;
      usable = inv.usable;
    }

pub returns-clause-makes : goal.returns-clause-makes
returns-clause-makes c = λ chunk.
    let w = c.loop-i.world in
    let k = c.args.machine.now in
    let inv = c.loop-i.invariant in
    let s' = c.give.new.self.stack in
    inv.leads chunk Continues w s'
    (joins_none chunk w w k.code k.stack s' (meant w.names c.loop-i.joined) c.args.world.now.names c.args.left.now c.loop-i.i c.args.to c.args.next (runs_on k.stack c.requires.goes) c.loop-i-test.false
    (subst (λ (m : Machine). Makes (give c.args.to (meant w.names c.loop-i.joined) c.args.next) w m.code m.stack w s') inv.same c.give.ensures.makes))

pub returns-clause-keeps : goal.returns-clause-keeps
returns-clause-keeps c = growth_keeps c.args.world.now c.loop-i.world c.loop-i.invariant.grown c.requires.sound.world
