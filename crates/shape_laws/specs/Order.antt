-- The order of instructions: what sets the end of a list stands before what takes the list, a closure before its captures, and what skips
-- a word before that word.
use Rattle.std.specs.Prelude.{ℕ, zero, suc, ℤ, pos, negsuc, Bool, true, false, ◌||◌, if◌then◌else◌, List, [], ◌∷◌, Option, Some, None, is_some, slice_get, option_map, option_and_then}
use Rattle.op_words.specs.declared.insn.Insn.{Insn as Instruction}
use Rattle.op_words.specs.declared.insn.Insn.TheVariants.{LoadB, NewClosure}
use Rattle.code_link.specs.declared.item.Item.{Item}
use Rattle.code_link.specs.declared.item.Item.TheVariants.{Insn, Branch, Label}
use Rattle.machine_meaning.specs.Needs.{sets_top, reads_top, is_capture}
use Rattle.machine_meaning.specs.WellFormed.{at_least}

-- what must stand next
pub data Owed : Type 0 where
  Nothing : Owed
  -- what takes the list without an end that begins here or before
  AList : (from : ℕ) → Owed
  -- so many captures, and one
  Captures : (more : ℕ) → Owed
  -- the word that is skipped
  AWord : Owed

abbrev pub captures : ℕ → Owed
captures zero = Nothing
captures (suc n) = Captures n

-- the child of which an instruction makes a closure
abbrev pub closure_of : Instruction → Option ℤ
closure_of (NewClosure to child) = Some child
closure_of _ = None

-- how many words an instruction skips
abbrev pub skipped : Instruction → ℕ
skipped (LoadB to value skip) = skip
skipped _ = 0

-- the loads of a truth value that skip nothing: they take one word
abbrev pub is_load : Instruction → Bool
is_load (LoadB to value zero) = true
is_load _ = false

-- how many variables a child captures
abbrev pub count_at : (counts : List ℕ) → ℤ → Option ℕ
count_at counts (pos n) = slice_get counts n
count_at counts (negsuc n) = None

abbrev pub skips : ℕ → Option Owed
skips zero = Some Nothing
skips (suc zero) = Some AWord
skips (suc (suc n)) = None

abbrev pub owed : (counts : List ℕ) → (list : Option ℕ) → (closure : Option ℤ) → (skip : ℕ) → Option Owed
owed counts (Some from) closure skip = Some (AList from)
owed counts None (Some child) skip = option_map captures (count_at counts child)
owed counts None None skip = skips skip

-- what an instruction owes
abbrev pub owed_by : (counts : List ℕ) → Instruction → Option Owed
owed_by counts i = owed counts (sets_top i) (closure_of i) (skipped i)

abbrev pub unless_bound : (capture : Bool) → (list : Option ℕ) → Option Owed → Option Owed
unless_bound capture list next = if capture || is_some list then None else next

-- what must stand behind an instruction, before which that is owed; nothing may stand where it does not fit
abbrev pub step : (counts : List ℕ) → Owed → Instruction → Option Owed
step counts Nothing i = unless_bound (is_capture i) (reads_top i) (owed_by counts i)
step counts (AList from) i = if at_least (reads_top i) from then owed_by counts i else None
step counts (Captures n) i = if is_capture i then Some (captures n) else None
step counts AWord i = if is_load i then Some Nothing else None

-- no label stands before what belongs to the instruction in front
abbrev pub past_label : Owed → Option Owed
past_label Nothing = Some Nothing
past_label AWord = Some AWord
past_label _ = None

abbrev pub step_item : (counts : List ℕ) → Owed → Item → Option Owed
step_item counts o (Insn i) = step counts o i
step_item counts o (Branch i l) = step counts o i
step_item counts o (Label l) = past_label o

-- what is owed behind all of them
abbrev pub walk : (counts : List ℕ) → Owed → List Item → Option Owed
walk counts o [] = Some o
walk counts o (x ∷ is) = option_and_then (λ (q : Owed). walk counts q is) (step_item counts o x)
