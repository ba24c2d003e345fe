-- Tables by word.
use Rattle.std.proofs.Common.{◌≡◌, refl, sym, ◌∙◌, ℕ, ◌≤◌, Bool, true, false, ◌||◌, List, [], ◌∷◌, length, drop, Option, Some, None, arith, ℤ, pos, negsuc, nat_eq, nat_lt, get_or}
use Rattle.std.specs.Prelude.{if◌then◌else◌}
use Rattle.std.specs.List.{list_any}
use Rattle.std.proofs.lemmas.List.{get_or_past}
use Rattle.std.proofs.lemmas.Bool.Decides.{nat_tests}
use Rattle.op_words.specs.declared.insn.Insn.{Insn}
use Rattle.machine_meaning.specs.Needs as needs
use Rattle.machine_meaning.specs.WellFormed as rules
use Rattle.chunk_check.specs.declared.lines.Line.{Line}
use Rattle.chunk_check.specs.Lines.{lines_of, IsIndex, word_at}

-- no word stands before the code
pub none_begins : (ls : List needs.Line) (k : ℕ) → None ≡ rules.line_at ls (negsuc k)
none_begins [] k = refl
none_begins (l ∷ ls) k = none_begins ls k

pub none_ends : (ls : List needs.Line) (k : ℕ) → None ≡ rules.line_before ls (negsuc k)
none_ends [] k = refl
none_ends (l ∷ ls) k = none_ends ls k

not_within : (t size : ℕ) (b : Bool) → nat_lt t size ≡ b → None ≡ (if b then Some t else None) → size ≤ t
not_within t size true e f = cc
not_within t size false e f = grind (arith, nat_tests)

-- an entry that the table does not have
pub past : {X : Type 0} (table : List (Option X)) (t : ℕ) → None ≡ word_at (pos t) (length table) → None ≡ get_or table t None
past table t e = sym (get_or_past table t None (not_within t (length table) (nat_lt t (length table)) refl e))

pub outside_begins : (ls : List needs.Line) (landings : List Bool) (first last : List (Option Insn)) (at : ℤ)
    → IsIndex ls landings first last → None ≡ word_at at (length first) → None ≡ rules.line_at ls at
outside_begins ls landings first last (pos t) is e = past first t e ∙ is.begins t
outside_begins ls landings first last (negsuc k) is e = none_begins ls k

pub outside_ends : (ls : List needs.Line) (landings : List Bool) (first last : List (Option Insn)) (at : ℤ) → IsIndex ls landings first last
    → None ≡ word_at at (length last) → None ≡ rules.line_before ls at
outside_ends ls landings first last (pos t) is e = past last t e ∙ is.ends t
outside_ends ls landings first last (negsuc k) is e = none_ends ls k

-- ---- from the last line to the first

-- the table so far has what begins at each word, as far as the lines from this one on say
pub record BeginsFrom (ls : List Line) (size k : ℕ) (table : List (Option Insn)) : Type 0 where
  pub few : k ≤ length ls
  pub long : length table ≡ size
  pub begins : (t : ℕ) → get_or table t None ≡ rules.line_at (lines_of (drop k ls)) (pos t)

pub record EndsFrom (ls : List Line) (size k : ℕ) (table : List (Option Insn)) : Type 0 where
  pub few : k ≤ length ls
  pub long : length table ≡ size
  pub ends : (t : ℕ) → get_or table t None ≡ rules.line_before (lines_of (drop k ls)) (pos t)

-- ---- from the first line to the last

-- the flags so far, and what the rest of the lines says, are what all lines say
pub record LandsSoFar (ls : List Line) (size : ℕ) (fast fast_two : Bool) (k : ℕ) (table : List Bool) : Type 0 where
  pub long : length table ≡ size
  pub lands : (t : ℕ) → (get_or table t false || list_any (nat_eq t) (rules.landings fast fast_two (lines_of (drop k ls))))
      ≡ list_any (nat_eq t) (rules.landings false false (lines_of ls))
