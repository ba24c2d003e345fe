-- Code that was read instruction by instruction.
use Rattle.std.specs.Prelude.{◌≡◌, ℕ, ◌<◌, List, length, Option, None, slice_index_or, IfSome}
use Rattle.op_words.specs.Decoding.{insn_at, StandsAt}
use Rattle.op_words.specs.declared.insn.Insn.{Insn}

-- the instruction at a place, and the place behind it; none where none stands there
abbrev pub Entry : Type 0
Entry = Option (Insn × ℕ)

abbrev pub entry_at : List Entry → (place : ℕ) → Entry
entry_at entries place = slice_index_or entries place None

-- the entry of a place of the words
pub record IsReadAt (words : List ℕ) (place : ℕ) (e : Entry) : Type 0 where
  pub value : e ≡ insn_at words place
  pub found : IfSome e (λ p. StandsAt words place p.0 p.1)

-- the entries are those of the first places
pub record AreReadTo (words : List ℕ) (entries : List Entry) (count : ℕ) : Type 0 where
  pub many : length entries ≡ count
  pub each : (place : ℕ) → place < count → IsReadAt words place (entry_at entries place)

-- each place has its entry, also those behind the words
abbrev pub AreReadOf : (words : List ℕ) → List Entry → Type 0
AreReadOf words entries = (place : ℕ) → IsReadAt words place (entry_at entries place)
