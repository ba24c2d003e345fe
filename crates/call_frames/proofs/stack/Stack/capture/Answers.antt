use Rattle.std.proofs.Common.{◌≡◌, ◌<◌, sym, ◌∙◌, ap, subst, length, get_or, Some, None, rules, arith}
use Rattle.std.proofs.lemmas.List.{get_or_read}
use Rattle.value_model.specs.declared.value.Value.TheVariants.{Nil}
use Rattle.call_frames.specs.Stacks as spec
use Rattle.call_frames.specs.Cells as opens
use Rattle.call_frames.proofs.Closing.{rises_opened}
use Rattle.call_frames.proofs.Capturing.{found_on, captured_there, cells_made, captured_made}
use Rattle.call_frames.proofs.Live.{live_opened, own_live, own_within, once_opened, fresh_other, in_found, in_grown, in_opened}
use Rattle.value_arena.proofs.Growing.{new_cell_grows}
use Rattle.value_arena.specs.Growing.{Grows}
use Rattle.call_frames.proofs.stack.Stack.capture.Goals as goal

pub lower-at-requires : goal.lower-at-requires
lower-at-requires c =
    (length c.self.inside.registers.items, subst (spec.Rises 0 (length c.self.inside.registers.items)) (sym c.as_slice.ensures) c.self.invariant.0)

pub returns-in-Some-clause-ok : goal.returns-in-Some-clause-ok
returns-in-Some-clause-ok c =
    let os = c.self.inside.cells.items in
    let found : Some c.in-Some.cell ≡ opens.cell_on c.args.register os = found_on c.args.register (length c.self.inside.registers.items) os c.as_slice.result.now c.as_slice-2.result.now c.lower-at.result (Some c.in-Some.cell) c.self.invariant.0 c.as_slice.ensures c.as_slice-2.ensures c.lower-at.ensures.value c.in-Some.ensures in
    captured_there c.args.self.now c.args.arena.now c.args.owner c.args.register c.in-Some.cell (subst (λ (s : spec.StackView). opens.cell_on c.args.register s.cells ≡ Some c.in-Some.cell) c.self.view_is (sym found))

pub invariant_of-self-2 : goal.invariant_of-self-2
invariant_of-self-2 c =
    let os = c.self.inside.cells.items in
    let regs = c.self.inside.registers.items in
    let s : spec.StackView = record { registers = regs; top = c.self.inside.top; frames = c.self.inside.frames.items; cells = os } in
    let own : opens.IsOwn s c.args.register = subst (λ (s : spec.StackView). opens.IsOwn s c.args.register) (sym c.self.view_is) c.requires.register in
    let there : opens.AreIn c.args.arena.now os = subst (λ (s : spec.StackView). opens.AreIn c.args.arena.now s.cells) (sym c.self.view_is) c.requires.there in
    let other : spec.AreOther c.in_ok-cell.cell os = subst (λ d. spec.AreOther d os) (sym c.in_ok-cell.ensures.id) (fresh_other c.args.arena.now c.args.owner os there) in
    let none : c.cell_at.result ≡ None = search rules in
    let free : opens.cell_on c.args.register os ≡ None = sym (found_on c.args.register (length regs) os c.as_slice.result.now c.as_slice-2.result.now c.lower-at.result c.cell_at.result c.self.invariant.0 c.as_slice.ensures c.as_slice-2.ensures c.lower-at.ensures.value c.cell_at.ensures) ∙ none in
    let made : c.insert.new.self.items ≡ opens.opened c.args.register c.in_ok-cell.cell os = cells_made c.args.register c.in_ok-cell.cell os c.as_slice.result.now c.reserve.new.self.items c.insert.new.self.items c.lower-at.result c.lower-at.ensures.value c.as_slice.ensures c.reserve.ensures.items c.in-Ok.ensures.ok in
    let within : c.args.register < length regs = own_within s c.args.register (subst (λ (s : spec.StackView). opens.IsOwn s c.args.register) (sym c.self.view_is) c.requires.register) c.self.invariant.2 in
    (subst (spec.Rises 0 (length regs)) (sym made) (rises_opened c.args.register 0 (length regs) c.in_ok-cell.cell os within (omega arith) free c.self.invariant.0), c.self.invariant.1, c.self.invariant.2, c.self.invariant.3, subst (spec.AreLive c.self.inside.frames.items) (sym made) (live_opened c.self.inside.frames.items c.args.register c.in_ok-cell.cell os (own_live s c.args.register own) c.self.invariant.4), subst spec.Once (sym made) (once_opened c.args.register c.in_ok-cell.cell os other c.self.invariant.5))

pub returns-clause-ok : goal.returns-clause-ok
returns-clause-ok c =
    let os = c.self.inside.cells.items in
    let regs = c.self.inside.registers.items in
    let s : spec.StackView = record { registers = regs; top = c.self.inside.top; frames = c.self.inside.frames.items; cells = os } in
    let none : c.cell_at.result ≡ None = search rules in
    let free : opens.cell_on c.args.register os ≡ None = sym (found_on c.args.register (length regs) os c.as_slice.result.now c.as_slice-2.result.now c.lower-at.result c.cell_at.result c.self.invariant.0 c.as_slice.ensures c.as_slice-2.ensures c.lower-at.ensures.value c.cell_at.ensures) ∙ none in
    let made : c.insert.new.self.items ≡ opens.opened c.args.register c.in_ok-cell.cell os = cells_made c.args.register c.in_ok-cell.cell os c.as_slice.result.now c.reserve.new.self.items c.insert.new.self.items c.lower-at.result c.lower-at.ensures.value c.as_slice.ensures c.reserve.ensures.items c.in-Ok.ensures.ok in
    let within : c.args.register < length regs = own_within s c.args.register (subst (λ (s : spec.StackView). opens.IsOwn s c.args.register) (sym c.self.view_is) c.requires.register) c.self.invariant.2 in
    let read : c.index.result.now ≡ get_or regs c.args.register Nil = get_or_read regs c.args.register c.index.result.now within c.index.ensures Nil in
    captured_made s c.args.arena.now c.new_cell.new.self c.args.owner c.args.register c.in_ok-cell.cell c.insert.new.self.items c.index.result.now free c.in_ok-cell.ensures.id made read c.in_ok-cell.ensures.made
    ∙ ap (λ (s : spec.StackView). opens.captured s c.args.arena.now c.args.owner c.args.register) c.self.view_is

pub index-requires : goal.index-requires
index-requires c =
    let s : spec.StackView = record { registers = c.self.inside.registers.items; top = c.self.inside.top; frames = c.self.inside.frames.items; cells = c.self.inside.cells.items } in
    let within : c.args.register < length c.self.inside.registers.items = own_within s c.args.register (subst (λ (s : spec.StackView). opens.IsOwn s c.args.register) (sym c.self.view_is) c.requires.register) c.self.invariant.2 in
    omega (arith, within, c.self.inside.registers.ok)

pub returns-in-Some-clause-there : goal.returns-in-Some-clause-there
returns-in-Some-clause-there c =
    let os = c.self.inside.cells.items in
    let found : Some c.in-Some.cell ≡ opens.cell_on c.args.register os = found_on c.args.register (length c.self.inside.registers.items) os c.as_slice.result.now c.as_slice-2.result.now c.lower-at.result (Some c.in-Some.cell) c.self.invariant.0 c.as_slice.ensures c.as_slice-2.ensures c.lower-at.ensures.value c.in-Some.ensures in
    let there : opens.AreIn c.args.arena.now os = subst (λ (s : spec.StackView). opens.AreIn c.args.arena.now s.cells) (sym c.self.view_is) c.requires.there in
    (in_found c.args.arena.now c.args.register c.in-Some.cell os there (sym found), c.requires.there)

pub returns-clause-there : goal.returns-clause-there
returns-clause-there c =
    let os = c.self.inside.cells.items in
    let made : c.insert.new.self.items ≡ opens.opened c.args.register c.in_ok-cell.cell os = cells_made c.args.register c.in_ok-cell.cell os c.as_slice.result.now c.reserve.new.self.items c.insert.new.self.items c.lower-at.result c.lower-at.ensures.value c.as_slice.ensures c.reserve.ensures.items c.in-Ok.ensures.ok in
    let there : opens.AreIn c.args.arena.now os = subst (λ (s : spec.StackView). opens.AreIn c.args.arena.now s.cells) (sym c.self.view_is) c.requires.there in
    let grown : Grows c.args.arena.now c.new_cell.new.self = subst (Grows c.args.arena.now) (sym c.in_ok-cell.ensures.made) (new_cell_grows c.args.arena.now c.args.owner c.index.result.now) in
    (c.in_ok-cell.ensures.there, subst (opens.AreIn c.new_cell.new.self) (sym made) (in_opened c.new_cell.new.self c.args.register c.in_ok-cell.cell os c.in_ok-cell.ensures.there (in_grown c.args.arena.now c.new_cell.new.self os grown there)))

pub returns-clause-grows : goal.returns-clause-grows
returns-clause-grows c =
    subst (Grows c.args.arena.now) (sym c.in_ok-cell.ensures.made) (new_cell_grows c.args.arena.now c.args.owner c.index.result.now)
