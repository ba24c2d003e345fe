-- Operations on values.
use Rattle.std.specs.Prelude.{ℕ, ℤ, ◌+ℤ◌, ◌-ℤ◌, ◌*ℤ◌, int_lt, int_le, Bool, true, false, List, Option, Some, None, Result, Ok, Err}
use Rattle.std.specs.Ordering.{int_eq}
use Rattle.std.specs.Fmt.{signed_decimal}
use Rattle.whole_num.specs.declared.arithmetic.Stop.{Stop}
use Rattle.whole_num.specs.Whole.{within}
use Rattle.built_values.specs.declared.value.Value.{Value}
use Rattle.built_values.specs.declared.value.Value.TheVariants.{Nil, Boolean, Number}

-- the result of an operation on two values, or a stop; none where there is no rule for them
abbrev pub Outcome : Type 0
Outcome = Option (Result Value Stop)

-- a number in range, or a stop
abbrev pub as_value : Result ℤ Stop → Result Value Stop
as_value (Ok n) = Ok (Number n)
as_value (Err s) = Err s

-- an exact result on two numbers
abbrev pub arithmetic : (ℤ → ℤ → ℤ) → Value → Value → Outcome
arithmetic f (Number v) (Number w) = Some (as_value (within (f v w)))
arithmetic f _ _ = None

-- a comparison of two numbers
abbrev pub comparison : (ℤ → ℤ → Bool) → Value → Value → Option Bool
comparison f (Number v) (Number w) = Some (f v w)
comparison f _ _ = None

unfoldable pub sum : Value → Value → Outcome
sum = arithmetic (λ v w. v +ℤ w)

unfoldable pub difference : Value → Value → Outcome
difference = arithmetic (λ v w. v -ℤ w)

unfoldable pub product : Value → Value → Outcome
product = arithmetic (λ v w. v *ℤ w)

unfoldable pub equal : Value → Value → Option Bool
equal = comparison int_eq

unfoldable pub less : Value → Value → Option Bool
less = comparison int_lt

unfoldable pub less_or_equal : Value → Value → Option Bool
less_or_equal = comparison int_le

-- nil and false choose the other branch
unfoldable pub is_true : Value → Bool
is_true Nil = false
is_true (Boolean b) = b
is_true _ = true

-- the text that `print` shows of a value
unfoldable pub printed : Value → Option (List ℕ)
printed (Number n) = Some (signed_decimal n)
printed _ = None
