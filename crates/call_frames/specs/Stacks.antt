-- What a stack is: its registers from the bottom, where a list of values ends, the calls that have not returned, the outermost
-- first, and the cells that are open, each with the register that it stands for, by rising registers.
use Rattle.std.specs.Prelude.{◌≢◌, ℕ, ◌+◌, ◌-◌, ◌<◌, ◌≤◌, List, [], ◌∷◌, ◌++◌, length, take, drop, replicate, slice_set}
use Rattle.value_model.specs.declared.ids.CellId.{CellId}
use Rattle.value_model.specs.declared.value.Value.{Value}
use Rattle.value_model.specs.declared.value.Value.TheVariants.{Nil}
use Rattle.call_frames.specs.declared.frame.Frame.{Frame}
use Rattle.call_frames.specs.declared.frame.OpenCell.{OpenCell}

pub record StackView : Type 0 where
  pub registers : List Value
  pub top : ℕ
  pub frames : List Frame
  pub cells : List OpenCell

abbrev pub no_stack : StackView
no_stack = record { registers = []; top = 0; frames = []; cells = [] }

-- the registers of a frame, with its variable arguments
abbrev pub IsOf : Frame → ℕ → Type 0
IsOf f r = (f.base - f.extra ≤ r) × (r < f.base + f.registers)

-- the register is one of a frame
pub data IsLive : List Frame → ℕ → Type 0 where
  here : {f : Frame} {fs : List Frame} {r : ℕ} → IsOf f r → IsLive (f ∷ fs) r
  there : {f : Frame} {fs : List Frame} {r : ℕ} → IsLive fs r → IsLive (f ∷ fs) r

-- each open cell stands for a register of a frame
abbrev pub AreLive : List Frame → List OpenCell → Type 0
AreLive fs [] = Unit {0}
AreLive fs (o ∷ os) = IsLive fs o.register × AreLive fs os

-- no cell is open twice
abbrev pub AreOther : CellId → List OpenCell → Type 0
AreOther c [] = Unit {0}
AreOther c (o ∷ os) = (c ≢ o.cell) × AreOther c os

abbrev pub Once : List OpenCell → Type 0
Once [] = Unit {0}
Once (o ∷ os) = AreOther o.cell os × Once os

-- the registers of all frames are below
abbrev pub AreBelow : ℕ → List Frame → Type 0
AreBelow n [] = Unit {0}
AreBelow n (f ∷ fs) = (f.base + f.registers ≤ n) × AreBelow n fs

-- the open cells stand for rising registers from the first on, each of which is below the end
abbrev pub Rises : (first end : ℕ) → List OpenCell → Type 0
Rises first end [] = Unit {0}
Rises first end (o ∷ os) = (first ≤ o.register) × (o.register < end) × Rises (o.register + 1) end os

-- the registers once those of a new frame are there: those below the top stay, and the others are nil
abbrev pub entered : List Value → (top end : ℕ) → List Value
entered regs top end = take top regs ++ replicate (end - top) Nil ++ drop (top + (end - top)) regs

-- one more frame
abbrev pub pushed : StackView → Frame → StackView
pushed s f = record s { registers = entered s.registers s.top (f.base + f.registers); frames = s.frames ++ f ∷ [] }

-- the registers of these frames lie from there on
abbrev pub AreFrom : ℕ → List Frame → Type 0
AreFrom n [] = Unit {0}
AreFrom n (f ∷ fs) = (n ≤ f.base - f.extra) × AreFrom n fs

-- the registers of a frame lie behind those of the frames outside it
abbrev pub AreApart : List Frame → Type 0
AreApart [] = Unit {0}
AreApart (f ∷ fs) = AreFrom (f.base + f.registers) fs × AreApart fs

-- How the frames lie in the registers: each has its own. And the open cells, by rising registers: each stands for one register of a
-- frame, no register has two, and no cell is open twice
pub record Layout (s : StackView) : Type 0 where
  pub below : AreBelow (length s.registers) s.frames
  pub apart : AreApart s.frames
  pub rises : Rises 0 (length s.registers) s.cells
  pub top : s.top ≤ length s.registers
  pub live : AreLive s.frames s.cells
  pub once : Once s.cells

-- one more value at the top
abbrev pub appended : StackView → Value → StackView
appended s v = record s { registers = slice_set s.registers s.top v; top = s.top + 1 }
