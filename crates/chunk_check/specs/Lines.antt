-- The instructions of a function, as the code keeps them, and what stands at each word.
use Rattle.std.specs.Prelude.{◌≡◌, ℕ, ◌<◌, ℤ, pos, negsuc, Bool, false, nat_eq, nat_lt, if◌then◌else◌, List, map, Option, Some, None, slice_index_or}
use Rattle.std.specs.List.{list_any}
use Rattle.op_words.specs.declared.insn.Insn.{Insn}
use Rattle.machine_meaning.specs.Needs as needs
use Rattle.machine_meaning.specs.WellFormed.{landings, line_at, line_before}
use Rattle.chunk_check.specs.declared.lines.Line.{Line}

abbrev pub line_of : Line → needs.Line
line_of l = record { place = l.place; insn = l.insn; next = l.next }

abbrev pub lines_of : List Line → List needs.Line
lines_of ls = map line_of ls

-- both places have an entry in a table of this size
pub record IsWithin (size : ℕ) (l : Line) : Type 0 where
  pub place : l.place < size
  pub next : l.next < size

-- what stands at each word: whether a jump may land there, the instruction that begins there, and the one that ends before it
pub record IsIndex (ls : List needs.Line) (lands : List Bool) (first last : List (Option Insn)) : Type 0 where
  pub landings : (t : ℕ) → slice_index_or lands t false ≡ list_any (nat_eq t) (landings false false ls)
  pub begins : (t : ℕ) → slice_index_or first t None ≡ line_at ls (pos t)
  pub ends : (t : ℕ) → slice_index_or last t None ≡ line_before ls (pos t)

-- the entry of a table of this size
abbrev pub word_at : ℤ → (size : ℕ) → Option ℕ
word_at (pos t) size = if nat_lt t size then Some t else None
word_at (negsuc t) size = None
