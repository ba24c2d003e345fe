-- Examples of `math`, computed.
use Rattle.std.proofs.Common.{◌≡◌, negsuc, [], ◌∷◌, refl}
use Rattle.std.specs.Prelude.{codes}
use Rattle.value_model.specs.Values.{Nil, Number, kind_of, is_true}
use Rattle.value_model.specs.Tables.{same, get, set, put, border, next_entry}
use Rattle.value_model.specs.Store.{table_at, with_table}
use Rattle.whole_num.specs.NumberTexts.{read_number, read_with_base}
use Rattle.value_model.specs.Metamethods.{index, newindex, arith, choose, is_function, metamethod, as_number, compare, callee_of, concat_two, length_of}
use Rattle.value_model.specs.Names.{name_of, text_of, as_plain}
use Rattle.value_model.specs.Operators.{calculated}
use Rattle.value_model.specs.Errors.{error_text}
use Rattle.value_model.specs.Library.{lib, go_on}
use Rattle.value_model.specs.Waiting.{wait}
use Rattle.value_model.specs.CoroutineRows.{coroutine_of, with_coroutine}
use Rattle.value_model.specs.Loops.{bounds, goes_on, iteration}
use Rattle.value_model.specs.Fresh.{fresh, look}
use Rattle.std.specs.Fmt.{digits}
use Rattle.value_model.specs.declared.builtin.Builtin.TheVariants as f
use Rattle.value_model.proofs.Examples.{n, t, call, Gave, Failed, Halted}
use Rattle.whole_num.specs.declared.arithmetic.Stop.TheVariants.{NotWhole}

pub math_1 :
    (call [] f.MathAbs (Number (negsuc 2) ∷ []) ≡ Gave (n 3 ∷ []))
    × (call [] f.MathCeil (t (codes "4") ∷ []) ≡ Gave (n 4 ∷ []))
    × (call [] f.MathFloor (Number (negsuc 3) ∷ []) ≡ Gave (Number (negsuc 3) ∷ []))
    × (call [] f.MathRound (n 7 ∷ []) ≡ Gave (n 7 ∷ []))
    × (call [] f.MathSign (Number (negsuc 8) ∷ []) ≡ Gave (Number (negsuc 0) ∷ []))
    × (call [] f.MathMax (n 1 ∷ t (codes "12") ∷ n 3 ∷ []) ≡ Gave (n 12 ∷ []))
    × (call [] f.MathMin (n 1 ∷ Number (negsuc 1) ∷ []) ≡ Gave (Number (negsuc 1) ∷ []))
    × (call [] f.MathClamp (n 9 ∷ n 1 ∷ n 5 ∷ []) ≡ Gave (n 5 ∷ []))
unfolding lib go_on choose index newindex arith compare callee_of concat_two length_of is_function metamethod as_number read_number read_with_base calculated table_at with_table same get set put border next_entry kind_of is_true name_of text_of as_plain error_text fresh look wait coroutine_of with_coroutine bounds goes_on iteration digits
math_1 = (refl, refl, refl, refl, refl, refl, refl, refl)

pub math_2 :
    (call [] f.MathClamp (n 9 ∷ n 5 ∷ n 1 ∷ []) ≡ Failed (codes "invalid argument #3 to 'clamp' (out of range)"))
    × (call [] f.MathMax [] ≡ Failed (codes "missing argument #1 to 'max' (number expected)"))
    × (call [] f.MathAbs (Nil ∷ []) ≡ Failed (codes "invalid argument #1 to 'abs' (number expected, got nil)"))
    × (call [] f.MathAbs (t (codes "0.5") ∷ []) ≡ Halted NotWhole)
unfolding lib go_on choose index newindex arith compare callee_of concat_two length_of is_function metamethod as_number read_number read_with_base calculated table_at with_table same get set put border next_entry kind_of is_true name_of text_of as_plain error_text fresh look wait coroutine_of with_coroutine bounds goes_on iteration digits
math_2 = (refl, refl, refl, refl)
