-- The whole numbers of the language, and the results of their arithmetic.
use Rattle.std.specs.Prelude.{ℤ, pos, neg_ℤ, ◌^◌, ◌≤ℤ◌, int_le, Bool, ◌&&◌, Result, Ok, Err, if◌then◌else◌, ℕ, List, codes}
use Rattle.whole_num.specs.declared.arithmetic.Stop.{Stop}
use Rattle.whole_num.specs.declared.arithmetic.Stop.TheVariants.{NotWhole, OutOfRange}

-- a whole number of the language: from -2^53 to 2^53
abbrev pub IsWhole : ℤ → Type 0
IsWhole z = (neg_ℤ (pos (2 ^ 53)) ≤ℤ z) × (z ≤ℤ pos (2 ^ 53))

-- the same, as a test
abbrev pub is_whole : ℤ → Bool
is_whole z = int_le (neg_ℤ (pos (2 ^ 53))) z && int_le z (pos (2 ^ 53))

-- an exact result: the number itself, or the stop where it is out of range
abbrev pub within : ℤ → Result ℤ Stop
within z = if is_whole z then Ok z else Err OutOfRange

-- the text of a stop
abbrev pub stop_text : Stop → List ℕ
stop_text NotWhole = codes "not whole"
stop_text OutOfRange = codes "out of range"
