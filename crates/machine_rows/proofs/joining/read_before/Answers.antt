use Rattle.std.proofs.Common.{◌≡◌, ◌-◌, [], map, refl, sym, ◌∙◌, ap, subst, arith}
use Rattle.std.specs.List.{AllByRecursion}
use Rattle.luau_tables.specs.Worlds.{MayUseIn}
use Rattle.value_model.specs.Parts.{meant}
use Rattle.machine_world.specs.Parts.{part, read_of}
use Rattle.machine_rows.specs.Operations.{operands}
use Rattle.machine_world.proofs.Frames.{runs_with}
use Rattle.machine_world.proofs.Here.{here}
use Rattle.machine_rows.proofs.Environments.{has_lower}
use Rattle.machine_rows.proofs.Joined.{operands_more, all_more}
use Rattle.machine_rows.proofs.joining.read_before.Goals as goal

pub read-v-requires-clause-has : goal.read-v-requires-clause-has
read-v-requires-clause-has c = has_lower c.args.machine.now.stack c.args.last _ (omega arith) c.requires.last

pub loop-i-preserved : goal.loop-i-preserved
loop-i-preserved c =
    let w = c.args.world.now in
    let k = c.args.machine.now in
    let inv = c.loop-i.invariant in
    record {
      within = omega (arith, c.loop-i-test.true);
      values = λ x replies.
          let h = here w k.code k.stack replies (runs_with k.stack c.args.last c.requires.last) in
          ap (map (meant w.names)) c.in_ok-push.ensures.items
          ∙ operands_more w.names h x c.loop-i.values.items c.read-v.result c.args.last c.loop-i.i (c.args.last - 1 - c.loop-i.i) refl (omega (arith, c.loop-i-test.true)) (inv.values x replies) (c.read-v.ensures.value x replies);
      usable = subst (AllByRecursion (MayUseIn w)) (sym c.in_ok-push.ensures.items) (all_more (MayUseIn w) c.loop-i.values.items c.read-v.result inv.usable c.read-v.ensures.usable);
    }

pub returns-clause-values : goal.returns-clause-values
returns-clause-values c = λ x replies.
    let k = c.args.machine.now in
    let count : c.loop-i.i ≡ c.args.last - c.args.from = omega (arith, c.loop-i-test.false, c.loop-i.invariant.within) in
    let from : c.args.last - c.loop-i.i ≡ c.args.from = omega (arith, count, c.requires.run) in
    c.loop-i.invariant.values x replies
    ∙ ap (λ n. read_of [] (operands (c.args.last - c.loop-i.i) n) (part c.args.world.now k.code k.stack x replies)) count
    ∙ ap (λ n. read_of [] (operands n (c.args.last - c.args.from)) (part c.args.world.now k.code k.stack x replies)) from
