-- What holds of stacks.
use Rattle.std.specs.Prelude.{◌≡◌, ℕ, ◌-◌, ◌<◌, ◌≤◌, List, length, take, slice_get}
use Rattle.value_model.specs.declared.ids.CellId.{CellId}
use Rattle.value_model.specs.declared.value.Value.{Value}
use Rattle.value_arena.specs.Arenas.{ArenaView}
use Rattle.call_frames.specs.Stacks.{StackView, Layout, entered}
use Rattle.call_frames.specs.Cells.{AreIn, closed, kept, read_up, unwound}

-- closing cells changes no upvalue: what it gave from a register, it then holds itself
abbrev pub ClosingKeepsUpvalues : Type 0
ClosingKeepsUpvalues = (s : StackView) (a : ArenaView) (r : ℕ) (c : CellId) → Layout s → AreIn a s.cells → read_up (record s { cells = kept r s.cells }) (closed r s.registers s.cells a) c ≡ read_up s a c

-- unwinding leaves the outer frames
abbrev pub OuterFramesStay : Type 0
OuterFramesStay = (n : ℕ) (s : StackView) (a : ArenaView) → (unwound n (s, a)).0.frames ≡ take (length s.frames - n) s.frames

-- unwinding changes no upvalue
abbrev pub UnwindingKeepsUpvalues : Type 0
UnwindingKeepsUpvalues = (n : ℕ) (s : StackView) (a : ArenaView) (c : CellId) → Layout s → AreIn a s.cells → read_up (unwound n (s, a)).0 (unwound n (s, a)).1 c ≡ read_up s a c

-- below its top a new frame changes no register, and so none of another frame
abbrev pub EnteringKeepsRegisters : Type 0
EnteringKeepsRegisters = (regs : List Value) (top end r : ℕ) → r < top → top ≤ length regs → slice_get (entered regs top end) r ≡ slice_get regs r
