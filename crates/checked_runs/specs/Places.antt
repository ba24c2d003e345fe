-- The places of a function where code may stand.
use Rattle.std.specs.Prelude.{◌≡◌, ℕ, ◌+◌, ◌≤◌, ℤ, pos, negsuc, ◌+ℤ◌, false, List, ◌∷◌, ◌++◌}
use Rattle.op_words.specs.Chunks.{ProtoOf}
use Rattle.machine_meaning.specs.Needs.{Line, lines, is_capture}

-- an instruction that is no capture begins at the place
pub record IsPlace (p : ProtoOf) (place : ℕ) : Type 0 where
  pub before : List Line
  pub line : Line
  pub after : List Line
  pub split : lines p.code ≡ before ++ line ∷ after
  pub there : line.place ≡ place
  pub runs : is_capture line.insn ≡ false

-- by so many words from the word behind the first one of an instruction stands such an instruction
pub record LeadsTo (p : ProtoOf) (place : ℕ) (by : ℤ) : Type 0 where
  pub target : ℕ
  pub is : pos (place + 1) +ℤ by ≡ pos target
  pub stands : IsPlace p target

-- so it does, and it stands further on
pub record LeadsOn (p : ProtoOf) (place : ℕ) (by : ℤ) : Type 0 where
  pub words : ℕ
  pub is : by ≡ pos words
  pub stands : IsPlace p (place + 1 + words)

-- or it stands no further on
pub record LeadsBack (place : ℕ) (by : ℤ) : Type 0 where
  pub words : ℕ
  pub is : by ≡ negsuc words
  pub within : words ≤ place
