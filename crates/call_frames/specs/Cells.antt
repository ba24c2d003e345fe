-- Open cells.
use Rattle.std.specs.Prelude.{◌≤◌, ℕ, zero, suc, ◌+◌, ◌-◌, ◌<◌, take, drop, replicate, ◌++◌, slice_get, IfSome, IsSomeAnd, Bool, true, false, cond, nat_lt, nat_eq, List, [], ◌∷◌, length, Option, Some, None, slice_index_or, slice_set}
use Rattle.std.specs.Option.{option_map_or}
use Rattle.value_model.specs.declared.ids.CellId.{CellId}
use Rattle.value_model.specs.declared.ids.ClosureId.{ClosureId}
use Rattle.value_model.specs.declared.ids.Owner.{Owner}
use Rattle.value_model.specs.declared.value.Value.{Value}
use Rattle.value_model.specs.declared.value.Value.TheVariants.{Nil}
use Rattle.value_model.specs.contracts.ids.CellIdPartialEq.TheImpl.{ghosts}
use Rattle.value_arena.specs.Arenas.{ArenaView, HasCell, cell_at, with_cell, new_cell, next_cell}
use Rattle.call_frames.specs.declared.frame.OpenCell.{OpenCell}
use Rattle.call_frames.specs.declared.frame.Frame.{Frame}
use Rattle.call_frames.specs.declared.frame.ReturnKind.{ReturnKind}
use Rattle.call_frames.specs.declared.frame.ReturnKind.TheVariants.{Idle}
use Rattle.call_frames.specs.Stacks.{StackView, AreBelow}

-- whether two cells are one
abbrev pub same : CellId → CellId → Bool
same = ghosts.eq

abbrev pub or_else : Option ℕ → Option ℕ → Option ℕ
or_else (Some r) q = Some r
or_else None q = q

-- the register that an open cell stands for
abbrev pub register_of : CellId → List OpenCell → Option ℕ
register_of c [] = None
register_of c (o ∷ os) = or_else (register_of c os) (cond (same o.cell c) (Some o.register) None)

-- the cell is open
abbrev pub holds : StackView → CellId → Bool
holds s c = option_map_or (λ r. true) (register_of c s.cells) false

abbrev pub register_at : StackView → ℕ → Value
register_at s r = slice_index_or s.registers r Nil

-- what an upvalue holds
unfoldable pub read_up : StackView → ArenaView → CellId → Value
read_up s a c = option_map_or (register_at s) (register_of c s.cells) (cell_at a c)

-- the stack and the arena after a write of an upvalue
abbrev pub Both : Type 0
Both = StackView × ArenaView

unfoldable pub write_up : StackView → ArenaView → CellId → Value → Both
write_up s a c v =
    option_map_or (λ r. (record s { registers = slice_set s.registers r v }, a)) (register_of c s.cells) (s, with_cell a c v)

-- the cell that is open on a register
abbrev pub cell_on : ℕ → List OpenCell → Option CellId
cell_on r [] = None
cell_on r (o ∷ os) = cond (nat_eq o.register r) (Some o.cell) (cell_on r os)

-- one more cell is open
abbrev pub opened : ℕ → CellId → List OpenCell → List OpenCell
opened r c [] = record { register = r; cell = c } ∷ []
opened r c (o ∷ os) = cond (nat_lt o.register r) (o ∷ opened r c os) (record { register = r; cell = c } ∷ o ∷ os)

-- those that stay open when all from a register up are closed
abbrev pub kept : ℕ → List OpenCell → List OpenCell
kept r [] = []
kept r (o ∷ os) = cond (nat_lt o.register r) (o ∷ kept r os) (kept r os)

-- the arena once they are closed: each keeps the value of its register
abbrev pub closed : ℕ → List Value → List OpenCell → ArenaView → ArenaView
closed r regs [] a = a
closed r regs (o ∷ os) a =
    cond (nat_lt o.register r) (closed r regs os a) (with_cell (closed r regs os a) o.cell (slice_index_or regs o.register Nil))

-- the open cells are of the arena
abbrev pub AreIn : ArenaView → List OpenCell → Type 0
AreIn a [] = Unit {0}
AreIn a (o ∷ os) = HasCell a o.cell × AreIn a os

-- the open cell of a register, with the stack and the arena, where one is made if there is none
unfoldable pub captured : StackView → ArenaView → Owner → ℕ → CellId × StackView × ArenaView
captured s a w r =
    option_map_or (λ c. (c, s, a)) (cell_on r s.cells)
    (next_cell a w, record s { cells = opened r (next_cell a w) s.cells }, new_cell a w (register_at s r))

-- how many stand for lower registers, before one that does not
abbrev pub lower : ℕ → List OpenCell → ℕ
lower r [] = 0
lower r (o ∷ os) = cond (nat_lt o.register r) (suc (lower r os)) 0

-- the cell at a place, where it stands for the register
abbrev pub on : ℕ → Option OpenCell → Option CellId
on r None = None
on r (Some o) = cond (nat_eq o.register r) (Some o.cell) None

abbrev pub on_place : ℕ → List OpenCell → ℕ → Option CellId
on_place r os at = on r (slice_get os at)

-- the last, if there is one, stands for a lower register
abbrev pub EndsBelow : ℕ → List OpenCell → Type 0
EndsBelow r os = IfSome (slice_get os (length os - 1)) (λ o. o.register < r)

-- the first register of a frame, its variable arguments included
abbrev pub low : Frame → ℕ
low f = f.base - f.extra

-- the innermost frame is taken off, once its cells are closed
abbrev pub without : Both → Frame → Both
without b f =
    (record b.0 { frames = take (length b.0.frames - 1) b.0.frames; cells = kept (low f) b.0.cells }, closed (low f) b.0.registers b.0.cells b.1)

unfoldable pub popped : Both → Both
popped b = option_map_or (without b) (slice_get b.0.frames (length b.0.frames - 1)) b

-- so many frames are taken off
abbrev pub unwound : ℕ → Both → Both
unwound zero b = b
unwound (suc n) b = unwound n (popped b)

-- ---- the innermost frame

abbrev pub innermost : StackView → Option Frame
innermost s = slice_get s.frames (length s.frames - 1)

-- the frames outside it
abbrev pub outer : StackView → List Frame
outer s = take (length s.frames - 1) s.frames

-- it is changed, and nothing else
unfoldable pub with_innermost : (Frame → Frame) → StackView → StackView
with_innermost change s =
    option_map_or (λ f. record s { frames = slice_set s.frames (length s.frames - 1) (change f) }) (innermost s) s

-- it goes on at another instruction
abbrev pub placed : ℕ → StackView → StackView
placed place = with_innermost (λ f. record f { place = place })

-- it has so many variable arguments
abbrev pub extended : ℕ → StackView → StackView
extended extra = with_innermost (λ f. record f { extra = extra })

-- it may have so many: they stand directly below its own registers, none of them is another frame's, and it keeps those that it has
abbrev pub MayHaveExtra : StackView → ℕ → Type 0
MayHaveExtra s extra = IsSomeAnd (innermost s) (λ f. (extra ≤ f.base) × (f.extra ≤ extra) × AreBelow (f.base - extra) (outer s))

-- the place is that of a register of the innermost frame
abbrev pub IsOwn : StackView → ℕ → Type 0
IsOwn s r = IsSomeAnd (innermost s) (λ f. (f.base ≤ r) × (r < f.base + f.registers))

-- the innermost frame has the register
abbrev pub HasLocal : StackView → ℕ → Type 0
HasLocal s r = IsSomeAnd (innermost s) (λ f. r < f.registers)

-- where a register of the innermost frame stands
abbrev pub place_in : Option Frame → ℕ → ℕ
place_in None r = r
place_in (Some f) r = f.base + r

abbrev pub place_of : StackView → ℕ → ℕ
place_of s r = place_in (innermost s) r

unfoldable pub local : StackView → ℕ → Value
local s r = register_at s (place_of s r)

unfoldable pub with_local : StackView → ℕ → Value → StackView
with_local s r v = record s { registers = slice_set s.registers (place_of s r) v }

-- what it waits for is given to it so
abbrev pub waiting : ReturnKind → StackView → StackView
waiting kind = with_innermost (λ f. record f { kind = kind })

-- ---- calls

-- where the registers of the innermost frame end
abbrev pub end_in : Option Frame → ℕ
end_in None = 0
end_in (Some f) = f.base + f.registers

abbrev pub end_of : StackView → ℕ
end_of s = end_in (innermost s)

-- the frame of a function that is entered
abbrev pub entered_frame : ClosureId → (base registers extra : ℕ) → Frame
entered_frame c base n e = record { closure = Some c; base = base; registers = n; extra = e; place = 0; kind = Idle }

-- A function is entered behind all frames: its variable arguments, and then its own registers, of which the first are given and the
-- others nil
unfoldable pub called : ClosureId → (registers : ℕ) → (given extra : List Value) → StackView → StackView
called c n given extra s =
    record s {
      registers = take (end_of s) s.registers ++ extra ++ given ++ replicate (n - length given) Nil;
      top = end_of s + length extra + length given;
      frames = s.frames ++ entered_frame c (end_of s + length extra) n (length extra) ∷ [];
    }

-- the frame of a library function that waits for the values of a call
abbrev pub library_frame : (base : ℕ) → ReturnKind → Frame
library_frame base kind = record { closure = None; base = base; registers = 0; extra = 0; place = 0; kind = kind }

-- it waits behind all frames
unfoldable pub library_called : ReturnKind → StackView → StackView
library_called kind s = record s { frames = s.frames ++ library_frame (end_of s) kind ∷ [] }

-- values stand over those from a place on
abbrev pub overlaid : List Value → (at : ℕ) → List Value → List Value
overlaid regs at vs = take at regs ++ vs ++ drop (at + length vs) regs

-- the innermost frame has the register, or it is the one behind its last
abbrev pub HasPlace : StackView → ℕ → Type 0
HasPlace s r = IsSomeAnd (innermost s) (λ f. r ≤ f.registers)

-- values stand in the registers of the innermost frame from one on, its list of values ends behind them, and nothing else lies behind
-- its own registers
unfoldable pub delivered : (to : ℕ) → List Value → StackView → StackView
delivered to vs s =
    record s { registers = overlaid (take (end_of s) s.registers) (place_of s to) vs; top = place_of s to + length vs }
