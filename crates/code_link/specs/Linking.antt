-- What linked code is.
use Rattle.std.specs.Prelude.{◌≡◌, ℕ, ◌+◌, ℤ, pos, ◌+ℤ◌, List, [], ◌∷◌, ◌++◌, length, drop, Option, Some, IsTrue, FitsSigned}
use Rattle.std.specs.Int.{w16}
use Rattle.op_words.specs.declared.insn.Insn.{Insn as Instruction}
use Rattle.op_words.specs.declared.insn.Insn.TheVariants.{Jump, JumpBack, JumpIf, JumpIfNot, JumpIfEq, JumpIfLe, JumpIfLt, JumpIfNotEq, JumpIfNotLe, JumpIfNotLt, ForNPrep, ForNLoop, ForGPrep, ForGLoop, JumpXEqKNil, JumpXEqKB, JumpXEqKN, JumpXEqKS}
use Rattle.op_words.specs.Encoding.{encoded}
use Rattle.code_link.specs.declared.item.Item.{Item}
use Rattle.code_link.specs.declared.item.Item.TheVariants.{Insn, Branch, Label}
use Rattle.code_link.specs.Labels.{is_jump, place_in}

-- the jump by this distance
abbrev pub jumping : Instruction → ℤ → Instruction
jumping (Jump _) by = Jump by
jumping (JumpBack _) by = JumpBack by
jumping (JumpIf value _) by = JumpIf value by
jumping (JumpIfNot value _) by = JumpIfNot value by
jumping (JumpIfEq left _ right) by = JumpIfEq left by right
jumping (JumpIfLe left _ right) by = JumpIfLe left by right
jumping (JumpIfLt left _ right) by = JumpIfLt left by right
jumping (JumpIfNotEq left _ right) by = JumpIfNotEq left by right
jumping (JumpIfNotLe left _ right) by = JumpIfNotLe left by right
jumping (JumpIfNotLt left _ right) by = JumpIfNotLt left by right
jumping (ForNPrep base _) by = ForNPrep base by
jumping (ForNLoop base _) by = ForNLoop base by
jumping (ForGPrep base _) by = ForGPrep base by
jumping (ForGLoop base _ variables) by = ForGLoop base by variables
jumping (JumpXEqKNil value _ test) by = JumpXEqKNil value by test
jumping (JumpXEqKB value _ test) by = JumpXEqKB value by test
jumping (JumpXEqKN value _ test) by = JumpXEqKN value by test
jumping (JumpXEqKS value _ test) by = JumpXEqKS value by test
jumping insn by = insn

-- at this place of the code stand the instruction's words
abbrev pub WordsAt : (code : List ℕ) → (at : ℕ) → Instruction → Type 0
WordsAt code at insn = drop at code ≡ encoded insn ++ drop (at + length (encoded insn)) code

-- at this place stands the jump, by the distance that leads from behind its first word to the other place
pub record JumpsTo (code : List ℕ) (at : ℕ) (insn : Instruction) (to : Option ℕ) : Type 0 where
  pub by : ℤ
  pub target : ℕ
  pub jump : IsTrue (is_jump insn)
  pub fits : FitsSigned w16 by
  pub reaches : pos (at + 1) +ℤ by ≡ pos target
  pub placed : to ≡ Some target
  pub words : WordsAt code at (jumping insn by)

-- the items stand in the code from one place to another and nothing else does, where each label has its place
abbrev pub Stands : List ℕ → (place : ℕ → Option ℕ) → (from : ℕ) → List Item → (to : ℕ) → Type 0
Stands code place from [] to = from ≡ to
Stands code place from (Insn i ∷ is) to =
    WordsAt code from i × Stands code place (from + length (encoded i)) is to
Stands code place from (Branch i l ∷ is) to =
    JumpsTo code from i (place l) × Stands code place (from + length (encoded i)) is to
Stands code place from (Label l ∷ is) to = (place l ≡ Some from) × Stands code place from is to

-- the code is the items' words from its first word to its end
abbrev pub IsLinked : List Item → (code : List ℕ) → Type 0
IsLinked items code = Stands code (place_in items 0) 0 items (length code)
