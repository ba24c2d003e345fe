-- The place from which `select` gives values.
use Rattle.std.specs.Prelude.{ℕ, suc, ℤ, pos, negsuc, ◌+ℤ◌, Option, Some, None}

-- counted from 1 on, a place from 0 on
abbrev pub place_from : ℤ → Option ℕ
place_from (pos (suc n)) = Some n
place_from z = None

-- below 0 it is counted from the end
abbrev pub first_place : ℤ → (count : ℕ) → Option ℕ
first_place (pos n) count = place_from (pos n)
first_place (negsuc n) count = place_from (negsuc n +ℤ pos (suc count))
