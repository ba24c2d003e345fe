use Rattle.std.proofs.Common.{◌≡◌, ◌<◌, sym, ◌∙◌, ap, subst, length, set, Some, None, arith}
use Rattle.std.specs.Option.{option_map_or}
use Rattle.value_arena.specs.Arenas.{with_cell}
use Rattle.value_arena.specs.Growing.{Grows}
use Rattle.value_arena.proofs.Growing.{grows_self, with_cell_grows}
use Rattle.call_frames.specs.Stacks as spec
use Rattle.call_frames.specs.Cells as opens
use Rattle.call_frames.proofs.Closing.{in_stays}
use Rattle.call_frames.proofs.Searching.{register_within}
use Rattle.call_frames.proofs.stack.Stack.write_up.Goals as goal

pub index_mut-requires : goal.index_mut-requires
index_mut-requires c =
    let os = c.self.inside.cells.items in
    let found : opens.register_of c.args.cell os ≡ Some c.in-Some.register = ap (opens.register_of c.args.cell) (sym c.as_slice.ensures) ∙ sym c.in-Some.ensures in
    let within : c.in-Some.register < length c.self.inside.registers.items = register_within c.args.cell 0 (length c.self.inside.registers.items) os c.in-Some.register c.self.invariant.0 found in
    omega (arith, within, c.self.inside.registers.ok)

pub returns-in-Some-clause-written : goal.returns-in-Some-clause-written
unfolding opens.write_up
returns-in-Some-clause-written c =
    let s : spec.StackView = record { registers = c.self.inside.registers.items; top = c.self.inside.top; frames = c.self.inside.frames.items; cells = c.self.inside.cells.items } in
    let found : opens.register_of c.args.cell s.cells ≡ Some c.in-Some.register = ap (opens.register_of c.args.cell) (sym c.as_slice.ensures) ∙ sym c.in-Some.ensures in
    sym (ap (λ (s : spec.StackView). opens.write_up s c.args.arena.now c.args.cell c.args.v) c.self.view_is)
    ∙ ap (λ q. option_map_or (λ r. (record s { registers = set s.registers r c.args.v }, c.args.arena.now)) q (s, with_cell c.args.arena.now c.args.cell c.args.v)) found

pub returns-in-None-clause-written : goal.returns-in-None-clause-written
unfolding opens.write_up
returns-in-None-clause-written c =
    let s : spec.StackView = record { registers = c.self.inside.registers.items; top = c.self.inside.top; frames = c.self.inside.frames.items; cells = c.self.inside.cells.items } in
    let found : opens.register_of c.args.cell s.cells ≡ None = ap (opens.register_of c.args.cell) (sym c.as_slice.ensures) ∙ sym c.in-None.ensures in
    sym (ap (λ (s : spec.StackView). opens.write_up s c.args.arena.now c.args.cell c.args.v) c.self.view_is)
    ∙ ap (λ q. option_map_or (λ r. (record s { registers = set s.registers r c.args.v }, c.args.arena.now)) q (s, with_cell c.args.arena.now c.args.cell c.args.v)) found
    ∙ ap (λ a. (s, a)) (sym c.set_cell.ensures) ∙ ap (λ (s : spec.StackView). (s, c.set_cell.new.self)) c.self.view_is

pub returns-in-Some-clause-there : goal.returns-in-Some-clause-there
returns-in-Some-clause-there c = subst (λ (s : spec.StackView). opens.AreIn c.args.arena.now s.cells) (sym c.self.view_is)

pub returns-in-Some-clause-grows : goal.returns-in-Some-clause-grows
returns-in-Some-clause-grows c = grows_self c.args.arena.now

pub returns-in-None-clause-there : goal.returns-in-None-clause-there
returns-in-None-clause-there c = λ there.
    let os = c.self.inside.cells.items in
    let old : opens.AreIn c.args.arena.now os = subst (λ (s : spec.StackView). opens.AreIn c.args.arena.now s.cells) (sym c.self.view_is) there in
    subst (λ (s : spec.StackView). opens.AreIn c.set_cell.new.self s.cells) c.self.view_is
    (subst (λ a. opens.AreIn a os) (sym c.set_cell.ensures) (in_stays c.args.arena.now c.args.cell c.args.v os old))

pub returns-in-None-clause-grows : goal.returns-in-None-clause-grows
returns-in-None-clause-grows c =
    subst (Grows c.args.arena.now) (sym c.set_cell.ensures) (with_cell_grows c.args.arena.now c.args.cell c.args.v)
