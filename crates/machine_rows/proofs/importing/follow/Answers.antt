use Rattle.std.proofs.Common.{◌+◌, map, sym, ◌∙◌, ap, subst, arith}
use Rattle.value_model.specs.Parts.{meant}
use Rattle.luau_tables.specs.Worlds.{MayUseIn}
use Rattle.meta_ops.specs.Outcomes.{OfOutcome, meant_outcome}
use Rattle.machine_meaning.specs.Effects.{follow_names}
use Rattle.machine_meaning.specs.Moves.{comes, give}
use Rattle.machine_meaning.specs.States.{Follows}
use Rattle.machine_world.specs.declared.machine.Machine.{Machine}
use Rattle.machine_world.specs.Functions.{text_of}
use Rattle.machine_world.specs.Rows.{Makes}
use Rattle.machine_world.specs.Sound.{IsMachine, Runs}
use Rattle.machine_world.proofs.Going.{runs_on}
use Rattle.machine_rows.specs.Leading.{looks, Does}
use Rattle.machine_rows.specs.declared.next.Next.TheVariants.{Continues}
use Rattle.machine_rows.proofs.NamesFollowed.{name_use, later_known, follows_on, follows_out, follows_none}
use Rattle.machine_rows.proofs.importing.follow.Goals as goal

pub settle-done-requires : goal.settle-done-requires
settle-done-requires g c =
    let w = c.args.world.now in
    let inv = c.loop-i.invariant in
    let known = name_use w c.args.path.now c.loop-i.i _ c.loop-i-test.true c.requires.known in
    record {
      sound = subst (λ (k : Machine). IsMachine w k.stack) (sym inv.same) c.requires.sound;
      runs = subst (λ (k : Machine). Runs k.stack) (sym inv.same) (runs_on c.args.machine.now.stack c.requires.goes);
      kind = later_known w c.args.path.now c.in_ok-names-in_default.names c.loop-i.i c.in_ok-names-in_default.ensures c.requires.known;
      usable = (c.index-outcome.ensures.chooses w.names w.owner c.requires.sound.world.own (inv.usable, known)).usable;
    }

pub returns-in_default : goal.returns-in_default
returns-in_default g c =
    let w = c.args.world.now in
    let k = c.args.machine.now in
    let inv = c.loop-i.invariant in
    let n = c.index-outcome.result.1 in
    let o = c.index-outcome.result.0 in
    let s' = c.settle-done.new.machine.stack in
    let names = c.in_ok-names-in_default.names in
    let known = name_use w c.args.path.now c.loop-i.i _ c.loop-i-test.true c.requires.known in
    record {
      makes = λ chunk.
          subst (λ j. Does chunk (follow_names (meant w.names c.args.base) (map (text_of w.names) c.args.path.now) c.args.to c.args.next) w k.code k.stack (c.loop-i.asked + j) c.settle-done.result w s') (sym c.from-asked.ensures)
          (inv.leads chunk n c.settle-done.result s'
          (follows_out chunk w w k.code k.stack s' (meant w.names c.loop-i.found) c.args.path.now names c.loop-i.i c.args.to c.args.next _ o n c.settle-done.result (runs_on k.stack c.requires.goes) c.loop-i-test.true c.in_ok-names-in_default.ensures
          (c.index-outcome.ensures.chooses w.names w.owner c.requires.sound.world.own (inv.usable, known)).meant
          (subst (λ (m : Machine). Does chunk (comes (meant_outcome w.names o) (looks n) (Follows (map (text_of w.names) names) c.args.to c.args.next)) w m.code m.stack n c.settle-done.result w s') inv.same (c.settle-done.ensures.makes chunk n))));
      sound = c.settle-done.ensures.sound;
      next = c.settle-done.ensures.next;
      code = c.settle-done.ensures.code ∙ ap (λ (m : Machine). m.code) inv.same;
      ticks = omega (arith, c.index-outcome.ensures.ticks, inv.ticks, c.from-asked.ensures);
    }

pub loop-i-preserved : goal.loop-i-preserved
loop-i-preserved g c =
    let w = c.args.world.now in
    let k = c.args.machine.now in
    let inv = c.loop-i.invariant in
    let n = c.index-outcome.result.1 in
    let o = c.index-outcome.result.0 in
    let known = name_use w c.args.path.now c.loop-i.i _ c.loop-i-test.true c.requires.known in
    let is = c.index-outcome.ensures.chooses w.names w.owner c.requires.sound.world.own (inv.usable, known) in
    record {
      same = inv.same;
      usable = subst (OfOutcome w.names (MayUseIn w)) c.in-Done.is is.usable;
      few = omega arith;
      ticks = omega (arith, c.index-outcome.ensures.ticks, inv.ticks, c.from-asked.ensures);
      leads = λ chunk j x s does.
          subst (λ q. Does chunk (follow_names (meant w.names c.args.base) (map (text_of w.names) c.args.path.now) c.args.to c.args.next) w k.code k.stack q x w s) (omega (arith, c.from-asked.ensures))
          (inv.leads chunk (n + j) x s
          (follows_on chunk w w k.code k.stack s (meant w.names c.loop-i.found) c.args.path.now c.loop-i.i c.args.to c.args.next _ o c.in-Done.v n j x (runs_on k.stack c.requires.goes) c.loop-i-test.true c.in-Done.is is.meant does));
    }

pub returns-clause-makes : goal.returns-clause-makes
returns-clause-makes g c = λ chunk.
    let w = c.args.world.now in
    let k = c.args.machine.now in
    let inv = c.loop-i.invariant in
    let s' = c.give.new.self.stack in
    subst (λ q. Does chunk (follow_names (meant w.names c.args.base) (map (text_of w.names) c.args.path.now) c.args.to c.args.next) w k.code k.stack q Continues w s') (omega arith)
    (inv.leads chunk 0 Continues s'
    (follows_none chunk w w k.code k.stack s' (meant w.names c.loop-i.found) c.args.path.now c.loop-i.i c.args.to c.args.next (runs_on k.stack c.requires.goes) c.loop-i-test.false
    (subst (λ (m : Machine). Makes (give c.args.to (meant w.names c.loop-i.found) c.args.next) w m.code m.stack w s') inv.same c.give.ensures.makes)))
