use Rattle.std.proofs.Common.{◌≡◌, ◌-◌, Some, map, take, drop, sym, ◌∙◌, ap, subst, arith}
use Rattle.std.specs.List.{AllByRecursion}
use Rattle.value_model.specs.Parts.{meant}
use Rattle.luau_tables.specs.Worlds.{MayUseIn}
use Rattle.call_frames.specs.Cells.{innermost}
use Rattle.machine_world.proofs.Listing.{list_usable}
use Rattle.machine_flow.proofs.Gathered.{part_varargs, below_base}
use Rattle.machine_flow.proofs.lists.varargs.Goals as goal

pub values-requires : goal.values-requires
values-requires c =
    let s = c.args.machine.now.stack in
    let f = c.in-Some.frame.now in
    let e : innermost s ≡ Some f = sym c.in-Some.ensures in
    omega (arith, below_base s f e c.lies.ensures, c.saturating_sub-first.ensures)

pub returns-clause-values : goal.returns-clause-values
returns-clause-values c = λ x replies.
    let w = c.args.world.now in
    let k = c.args.machine.now in
    let f = c.in-Some.frame.now in
    let e : innermost k.stack ≡ Some f = sym c.in-Some.ensures in
    ap (map (meant w.names)) (c.values.ensures ∙ ap (λ n. take (f.base - n) (drop n k.stack.registers)) c.saturating_sub-first.ensures)
    ∙ part_varargs w k.code k.stack f x replies e c.requires.runs

pub returns-clause-usable : goal.returns-clause-usable
returns-clause-usable c =
    let w = c.args.world.now in
    let k = c.args.machine.now in
    let f = c.in-Some.frame.now in
    subst (AllByRecursion (MayUseIn w)) (sym c.values.ensures) (list_usable w k.stack (f.base - c.saturating_sub-first.result) c.saturating_sub-first.result c.requires.sound)
