-- Instructions that fit: each field has its bits, and the registers that are named are those of the function.
use Rattle.std.specs.Prelude.{ℕ, ◌+◌, ◌≤◌, List, [], ◌∷◌}
use Rattle.op_words.specs.declared.insn.Insn.{Insn as Instruction}
use Rattle.op_words.specs.Encoding.{IsFit}
use Rattle.code_link.specs.declared.item.Item.{Item}
use Rattle.code_link.specs.declared.item.Item.TheVariants.{Insn, Branch, Label}
use Rattle.machine_meaning.specs.Needs.{Range, registers_of}

-- all of these registers are below a number
abbrev pub AreBelow : (count : ℕ) → List Range → Type 0
AreBelow count [] = Unit {0}
AreBelow count (r ∷ rs) = (r.0 + r.1 ≤ count) × AreBelow count rs

-- in a function of so many registers
pub record Fits (count : ℕ) (i : Instruction) : Type 0 where
  pub fit : IsFit i
  pub registers : AreBelow count (registers_of i)

-- of a branch with the distance that it names before it is linked
abbrev pub AllFit : (count : ℕ) → List Item → Type 0
AllFit count [] = Unit {0}
AllFit count (Insn i ∷ is) = Fits count i × AllFit count is
AllFit count (Branch i l ∷ is) = Fits count i × AllFit count is
AllFit count (Label l ∷ is) = AllFit count is
