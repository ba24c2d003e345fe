-- Numbers that `tonumber` reads and gives.
use Rattle.std.specs.Prelude.{◌≡◌, ℕ, ◌≤◌, ℤ, pos, int_le, false, ◌&&◌, List, [], ◌∷◌, Option, Some, None, Result, Ok, Err}
use Rattle.std.specs.Fmt.{signed_decimal}
use Rattle.value_model.specs.Values as m
use Rattle.value_model.specs.declared.value.Value.{Value}
use Rattle.value_model.specs.declared.value.Value.TheVariants.{Nil, Num}
use Rattle.whole_num.specs.NumberTexts.{ReadNumber, read_with_base}
use Rattle.lib_arguments.specs.Rows.{Gives}
use Rattle.lib_arguments.specs.declared.ending.Ending.{Ending}
use Rattle.lib_arguments.specs.declared.ending.Ending.TheVariants.{Stop}

-- the base that a number is: one from 2 to 36, or none
abbrev pub IsRadix : ℤ → Option ℕ → Type 0
IsRadix z None = (int_le (pos 2) z && int_le z (pos 36)) ≡ false
IsRadix z (Some radix) = (z ≡ pos radix) × (2 ≤ radix) × (radix ≤ 36)

-- what a value is in a base: a number counts as its text
abbrev pub based_number : (radix : ℕ) → m.Value → ReadNumber
based_number radix (m.Number z) = read_with_base radix (signed_decimal z)
based_number radix (m.Text bs) = read_with_base radix bs
based_number radix v = None

-- a number is given, or nil where there is none
abbrev pub GivesNumber : (results_before results_after : List Value) → ReadNumber → Result (Unit {0}) Ending → Type 0
GivesNumber rs rs' None result = Gives rs rs' (Nil ∷ []) result
GivesNumber rs rs' (Some (Ok z)) result = Gives rs rs' (Num z ∷ []) result
GivesNumber rs rs' (Some (Err s)) result = (result ≡ Err (Stop s)) × (rs' ≡ rs)
