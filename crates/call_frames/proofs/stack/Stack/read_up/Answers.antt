use Rattle.std.proofs.Common.{◌≡◌, ◌<◌, sym, ◌∙◌, ap, length, get_or, Some, None, arith}
use Rattle.std.specs.Option.{option_map_or}
use Rattle.std.proofs.lemmas.List.{get_or_read}
use Rattle.value_model.specs.declared.value.Value.TheVariants.{Nil}
use Rattle.value_arena.specs.Arenas.{cell_at}
use Rattle.call_frames.specs.Stacks as spec
use Rattle.call_frames.specs.Cells as opens
use Rattle.call_frames.proofs.Searching.{register_within}
use Rattle.call_frames.proofs.stack.Stack.read_up.Goals as goal

pub index-requires : goal.index-requires
index-requires c =
    let os = c.self.inside.cells.items in
    let found : opens.register_of c.args.cell os ≡ Some c.in-Some.register = ap (opens.register_of c.args.cell) (sym c.as_slice.ensures) ∙ sym c.in-Some.ensures in
    let within : c.in-Some.register < length c.self.inside.registers.items = register_within c.args.cell 0 (length c.self.inside.registers.items) os c.in-Some.register c.self.invariant.0 found in
    omega (arith, within, c.self.inside.registers.ok)

pub returns-in-Some : goal.returns-in-Some
unfolding opens.read_up
returns-in-Some c =
    let os = c.self.inside.cells.items in
    let regs = c.self.inside.registers.items in
    let found : opens.register_of c.args.cell os ≡ Some c.in-Some.register = ap (opens.register_of c.args.cell) (sym c.as_slice.ensures) ∙ sym c.in-Some.ensures in
    let within : c.in-Some.register < length regs = register_within c.args.cell 0 (length regs) os c.in-Some.register c.self.invariant.0 found in
    get_or_read regs c.in-Some.register c.index.result.now within c.index.ensures Nil
    ∙ sym (ap (λ q. option_map_or (λ r. get_or regs r Nil) q (cell_at c.args.arena.now c.args.cell)) found)
    ∙ ap (λ (s : spec.StackView). opens.read_up s c.args.arena.now c.args.cell) c.self.view_is

pub returns-in-None : goal.returns-in-None
unfolding opens.read_up
returns-in-None c =
    let os = c.self.inside.cells.items in
    let found : opens.register_of c.args.cell os ≡ None = ap (opens.register_of c.args.cell) (sym c.as_slice.ensures) ∙ sym c.in-None.ensures in
    c.cell.ensures
    ∙ sym (ap (λ q. option_map_or (λ r. get_or c.self.inside.registers.items r Nil) q (cell_at c.args.arena.now c.args.cell)) found)
    ∙ ap (λ (s : spec.StackView). opens.read_up s c.args.arena.now c.args.cell) c.self.view_is
