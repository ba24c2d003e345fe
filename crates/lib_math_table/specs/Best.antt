-- The better one of two numbers.
use Rattle.std.specs.Prelude.{ℤ, Bool, true, false}
use Rattle.std.specs.Int.{int_max, int_min}

-- the greater, or else the lesser
abbrev pub better : (greatest : Bool) → ℤ → ℤ → ℤ
better true a b = int_max a b
better false a b = int_min a b
