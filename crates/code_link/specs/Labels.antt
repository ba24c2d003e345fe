-- Labels and their places, and what can be linked.
use Rattle.std.specs.Prelude.{◌<◌, ◌^◌, ℕ, ◌+◌, Bool, true, false, List, [], ◌∷◌, length, Option, Some, None, IsSome, IsTrue, nat_eq, if◌then◌else◌}
use Rattle.std.specs.List.{IsDistinct}
use Rattle.op_words.specs.declared.insn.Insn.{Insn as Instruction}
use Rattle.op_words.specs.declared.insn.Insn.TheVariants.{Jump, JumpBack, JumpIf, JumpIfNot, JumpIfEq, JumpIfLe, JumpIfLt, JumpIfNotEq, JumpIfNotLe, JumpIfNotLt, ForNPrep, ForNLoop, ForGPrep, ForGLoop, JumpXEqKNil, JumpXEqKB, JumpXEqKN, JumpXEqKS}
use Rattle.op_words.specs.Encoding.{encoded}
use Rattle.code_link.specs.declared.item.Item.{Item}
use Rattle.code_link.specs.declared.item.Item.TheVariants.{Insn, Branch, Label}

-- the instructions that jump by a distance
abbrev pub is_jump : Instruction → Bool
is_jump (Jump by) = true
is_jump (JumpBack by) = true
is_jump (JumpIf value by) = true
is_jump (JumpIfNot value by) = true
is_jump (JumpIfEq left by right) = true
is_jump (JumpIfLe left by right) = true
is_jump (JumpIfLt left by right) = true
is_jump (JumpIfNotEq left by right) = true
is_jump (JumpIfNotLe left by right) = true
is_jump (JumpIfNotLt left by right) = true
is_jump (ForNPrep base by) = true
is_jump (ForNLoop base by) = true
is_jump (ForGPrep base by) = true
is_jump (ForGLoop base by variables) = true
is_jump (JumpXEqKNil value by test) = true
is_jump (JumpXEqKB value by test) = true
is_jump (JumpXEqKN value by test) = true
is_jump (JumpXEqKS value by test) = true
is_jump insn = false

-- how many words the items take
abbrev pub word_count : List Item → ℕ
word_count [] = 0
word_count (Insn i ∷ is) = length (encoded i) + word_count is
word_count (Branch i l ∷ is) = length (encoded i) + word_count is
word_count (Label l ∷ is) = word_count is

-- the place of a label in the items that begin at a place: the first word of what follows the label
abbrev pub place_in : List Item → (from : ℕ) → (label : ℕ) → Option ℕ
place_in [] from label = None
place_in (Insn i ∷ is) from label = place_in is (from + length (encoded i)) label
place_in (Branch i l ∷ is) from label = place_in is (from + length (encoded i)) label
place_in (Label l ∷ is) from label = if nat_eq l label then Some from else place_in is from label

-- the labels that are placed, in order
abbrev pub labels : List Item → List ℕ
labels [] = []
labels (Insn i ∷ is) = labels is
labels (Branch i l ∷ is) = labels is
labels (Label l ∷ is) = l ∷ labels is

-- each branch is a jump to a label that has a place
abbrev pub AreJumps : (place : ℕ → Option ℕ) → List Item → Type 0
AreJumps place [] = Unit {0}
AreJumps place (Insn i ∷ is) = AreJumps place is
AreJumps place (Branch i l ∷ is) = IsTrue (is_jump i) × IsSome (place l) × AreJumps place is
AreJumps place (Label l ∷ is) = AreJumps place is

-- each label is placed once, each branch jumps to a label that is placed, and each distance fits
pub record IsLinkable (items : List Item) : Type 0 where
  pub once : IsDistinct nat_eq (labels items)
  pub jumps : AreJumps (place_in items 0) items
  pub short : word_count items < 2 ^ 15
