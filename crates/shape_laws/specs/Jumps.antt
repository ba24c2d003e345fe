-- Where branches lead: those of loops back to a label before them, and all others ahead to one behind them.
use Rattle.std.specs.Prelude.{◌≡◌, ℕ, Bool, true, false, ◌⊎◌, List, [], ◌∷◌}
use Rattle.op_words.specs.declared.insn.Insn.{Insn as Instruction}
use Rattle.op_words.specs.declared.insn.Insn.TheVariants.{ForNPrep, ForNLoop}
use Rattle.code_link.specs.declared.item.Item.{Item}
use Rattle.code_link.specs.declared.item.Item.TheVariants.{Insn, Branch, Label}
use Rattle.code_link.specs.Labels.{labels}
use Rattle.machine_meaning.specs.Needs.{goes_back}

abbrev pub Among : {A : Type 0} → A → List A → Type 0
Among x [] = ⊥
Among x (y ∷ ys) = (x ≡ y) ⊎ Among x ys

-- what a branch waits for: its label, or its label right behind the end of the numeric loop in that register
pub data Await : Type 0 where
  Ahead : (label : ℕ) → Await
  Around : (base label : ℕ) → Await

abbrev pub awaited : Instruction → (label : ℕ) → Await
awaited (ForNPrep base by) l = Around base l
awaited _ l = Ahead l

abbrev pub labelled : ℕ → List Item → Type 0
labelled l (Label m ∷ is) = l ≡ m
labelled l _ = ⊥

abbrev pub ends_loop : ℕ → Instruction → Type 0
ends_loop base (ForNLoop b by) = base ≡ b
ends_loop base _ = ⊥

abbrev pub closes : (base label : ℕ) → Item → List Item → Type 0
closes base l (Branch i m) is = ends_loop base i × labelled l is
closes base l _ is = ⊥

-- the end of a loop stands among the items, and the label right behind it
abbrev pub Closes : (base label : ℕ) → List Item → Type 0
Closes base l [] = ⊥
Closes base l (x ∷ is) = closes base l x is ⊎ Closes base l is

abbrev pub met : Await → List Item → Type 0
met (Ahead l) is = Among l (labels is)
met (Around base l) is = Closes base l is

abbrev pub lands : (back : Bool) → (placed : List ℕ) → (pending : List Await) → Await → (label : ℕ) → List Item → Type 0
lands true placed pending w l is = Among l placed
lands false placed pending w l is = met w is ⊎ Among w pending

-- Each branch back leads to a label before it, and what each other one waits for stands behind it, or is among what is pending
abbrev pub Jumps : (placed : List ℕ) → (pending : List Await) → List Item → Type 0
Jumps placed pending [] = Unit {0}
Jumps placed pending (Insn i ∷ is) = Jumps placed pending is
Jumps placed pending (Branch i l ∷ is) = lands (goes_back i) placed pending (awaited i l) l is × Jumps placed pending is
Jumps placed pending (Label l ∷ is) = Jumps (l ∷ placed) pending is
