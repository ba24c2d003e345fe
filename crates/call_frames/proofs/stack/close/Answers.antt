use Rattle.std.proofs.Common.{◌≡◌, ◌-◌, ◌++◌, ◌∷◌, [], ap, sym, ◌∙◌, subst, take, get_or, length, slice_get, Some}
use Rattle.value_model.specs.declared.value.Value.TheVariants.{Nil}
use Rattle.value_arena.specs.Arenas as arenas
use Rattle.call_frames.specs.Stacks as spec
use Rattle.call_frames.specs.Cells as opens
use Rattle.call_frames.proofs.Closing as closing
use Rattle.call_frames.proofs.stack.close.Goals as goal

pub read-requires : goal.read-requires
read-requires c =
    let os = c.loop-entry.cells.items in
    let o = c.in-Some.entry in
    let got : slice_get os (length os - 1) ≡ Some o = subst (λ xs. slice_get xs (length xs - 1) ≡ Some o) c.as_slice.ensures c.in-Some.ensures.1 in
    closing.rises_last 0 (length c.args.registers.now) (take (length os - 1) os) o
    (subst (spec.Rises 0 (length c.args.registers.now)) (closing.split_last os o got) c.loop-entry.invariant.2)

pub set_cell-requires : goal.set_cell-requires
set_cell-requires c =
    let os = c.loop-entry.cells.items in
    let o = c.in-Some.entry in
    let got : slice_get os (length os - 1) ≡ Some o = subst (λ xs. slice_get xs (length xs - 1) ≡ Some o) c.as_slice.ensures c.in-Some.ensures.1 in
    closing.in_last c.loop-entry.arena (take (length os - 1) os) o
    (subst (opens.AreIn c.loop-entry.arena) (closing.split_last os o got) c.loop-entry.invariant.3)

pub loop-entry-preserved : goal.loop-entry-preserved
loop-entry-preserved c =
    let os = c.loop-entry.cells.items in
    let o = c.in-Some.entry in
    let r = c.args.register in
    let regs = c.args.registers.now in
    let got : slice_get os (length os - 1) ≡ Some o = subst (λ xs. slice_get xs (length xs - 1) ≡ Some o) c.as_slice.ensures c.in-Some.ensures.1 in
    let front : c.pop.new.self.items ≡ take (length os - 1) os = c.pop.ensures.rest in
    let split : os ≡ c.pop.new.self.items ++ o ∷ [] = closing.split_last os o got ∙ ap (λ xs. xs ++ o ∷ []) (sym front) in
    let now : c.set_cell.new.self ≡ arenas.with_cell c.loop-entry.arena o.cell (get_or regs o.register Nil) = c.set_cell.ensures ∙ ap (arenas.with_cell c.loop-entry.arena o.cell) c.read.ensures in (
      c.loop-entry.invariant.0 ∙ ap (opens.kept r) split ∙ closing.kept_push r c.pop.new.self.items o c.in-Some.ensures.0,
      c.loop-entry.invariant.1 ∙ ap (λ os. opens.closed r regs os c.loop-entry.arena) split ∙ closing.closed_push r regs c.pop.new.self.items o c.loop-entry.arena c.in-Some.ensures.0 ∙ ap (opens.closed r regs c.pop.new.self.items) (sym now),
      closing.rises_front 0 (length regs) c.pop.new.self.items o (subst (spec.Rises 0 (length regs)) split c.loop-entry.invariant.2),
      subst (λ a. opens.AreIn a c.pop.new.self.items) (sym now) (closing.in_stays c.loop-entry.arena o.cell (get_or regs o.register Nil) c.pop.new.self.items (closing.in_front c.loop-entry.arena c.pop.new.self.items o (subst (opens.AreIn c.loop-entry.arena) split c.loop-entry.invariant.3))),
    )

pub returns-clause-cells : goal.returns-clause-cells
returns-clause-cells c =
    let os = c.loop-entry.cells.items in
    let below : opens.EndsBelow c.args.register os = subst (opens.EndsBelow c.args.register) c.as_slice.ensures c.in_default.ensures in
    sym (c.loop-entry.invariant.0 ∙ closing.kept_all c.args.register 0 (length c.args.registers.now) os c.loop-entry.invariant.2 below)

pub returns-clause-arena : goal.returns-clause-arena
returns-clause-arena c =
    let os = c.loop-entry.cells.items in
    let below : opens.EndsBelow c.args.register os = subst (opens.EndsBelow c.args.register) c.as_slice.ensures c.in_default.ensures in
    sym (c.loop-entry.invariant.1 ∙ closing.closed_none c.args.register 0 (length c.args.registers.now) c.args.registers.now os c.loop-entry.arena c.loop-entry.invariant.2 below)
