-- Examples of `string`, but `format`, computed.
use Rattle.std.proofs.Common.{◌≡◌, negsuc, [], ◌∷◌, refl}
use Rattle.std.specs.Prelude.{codes}
use Rattle.value_model.specs.Values.{Number, kind_of, is_true}
use Rattle.value_model.specs.Tables.{same, get, set, put, border, next_entry}
use Rattle.value_model.specs.Store.{table_at, with_table}
use Rattle.whole_num.specs.NumberTexts.{read_number, read_with_base}
use Rattle.value_model.specs.Metamethods.{index, newindex, arith, choose, is_function, metamethod, as_number, compare, callee_of, concat_two, length_of}
use Rattle.value_model.specs.Names.{name_of, text_of, as_plain}
use Rattle.value_model.specs.Operators.{calculated}
use Rattle.value_model.specs.Errors.{error_text}
use Rattle.value_model.specs.Library.{lib, go_on}
use Rattle.value_model.specs.Waiting.{wait}
use Rattle.value_model.specs.CoroutineRows.{coroutine_of, with_coroutine}
use Rattle.value_model.specs.Loops.{bounds, goes_on, iteration}
use Rattle.value_model.specs.Fresh.{fresh, look}
use Rattle.std.specs.Fmt.{digits}
use Rattle.value_model.specs.declared.builtin.Builtin.TheVariants as f
use Rattle.value_model.proofs.Examples.{n, t, own, call, entries_after, Gave, Failed}

pub string_1 :
    (call [] f.StringByte (t (codes "abc") ∷ []) ≡ Gave (n 97 ∷ []))
    × (call [] f.StringByte (t (codes "abc") ∷ Number (negsuc 1) ∷ n 9 ∷ []) ≡ Gave (n 98 ∷ n 99 ∷ []))
    × (call [] f.StringByte (t (codes "abc") ∷ n 3 ∷ n 1 ∷ []) ≡ Gave [])
    × (call [] f.StringChar (n 104 ∷ n 105 ∷ []) ≡ Gave (t (codes "hi") ∷ []))
    × (call [] f.StringChar (n 65 ∷ n 256 ∷ []) ≡ Failed (codes "invalid argument #2 to 'char' (out of range)"))
    × (call [] f.StringChar [] ≡ Failed (codes "missing argument #1 to 'char' (number expected)"))
    × (call [] f.StringLen (Number (negsuc 11) ∷ []) ≡ Gave (n 3 ∷ []))
    × (call [] f.StringSub (t (codes "hello") ∷ n 2 ∷ Number (negsuc 1) ∷ []) ≡ Gave (t (codes "ell") ∷ []))
unfolding lib go_on choose index newindex arith compare callee_of concat_two length_of is_function metamethod as_number read_number read_with_base calculated table_at with_table same get set put border next_entry kind_of is_true name_of text_of as_plain error_text fresh look wait coroutine_of with_coroutine bounds goes_on iteration digits
string_1 = (refl, refl, refl, refl, refl, refl, refl, refl)

pub string_2 :
    (call [] f.StringSub (t (codes "hello") ∷ n 0 ∷ []) ≡ Gave (t (codes "hello") ∷ []))
    × (call [] f.StringSub (t (codes "hello") ∷ n 4 ∷ n 2 ∷ []) ≡ Gave (t (codes "") ∷ []))
    × (call [] f.StringLower (t (codes "AbC1") ∷ []) ≡ Gave (t (codes "abc1") ∷ []))
    × (call [] f.StringUpper (t (codes "AbC1") ∷ []) ≡ Gave (t (codes "ABC1") ∷ []))
    × (call [] f.StringRep (t (codes "ab") ∷ n 3 ∷ []) ≡ Gave (t (codes "ababab") ∷ []))
    × (call [] f.StringRep (t (codes "ab") ∷ Number (negsuc 0) ∷ []) ≡ Gave (t (codes "") ∷ []))
    × (call [] f.StringRep (t (codes "x") ∷ n 16777217 ∷ []) ≡ Failed (codes "resulting string too large"))
    × (call [] f.StringRep (t (codes "") ∷ n 9007199254740992 ∷ []) ≡ Gave (t (codes "") ∷ []))
unfolding lib go_on choose index newindex arith compare callee_of concat_two length_of is_function metamethod as_number read_number read_with_base calculated table_at with_table same get set put border next_entry kind_of is_true name_of text_of as_plain error_text fresh look wait coroutine_of with_coroutine bounds goes_on iteration digits
string_2 = (refl, refl, refl, refl, refl, refl, refl, refl)

pub string_3 :
    (call [] f.StringReverse (t (codes "abc") ∷ []) ≡ Gave (t (codes "cba") ∷ []))
    × (entries_after [] f.StringSplit (t (codes "a,b,,c") ∷ []) 0 ≡ (n 1, t (codes "a")) ∷ (n 2, t (codes "b")) ∷ (n 3, t (codes "")) ∷ (n 4, t (codes "c")) ∷ [])
    × (entries_after [] f.StringSplit (t (codes "ab") ∷ t (codes "") ∷ []) 0 ≡ (n 1, t (codes "a")) ∷ (n 2, t (codes "b")) ∷ [])
    × (call [] f.StringSplit (t (codes "x") ∷ t (codes "y") ∷ []) ≡ Gave (own 0 ∷ []))
    × (entries_after [] f.StringSplit (t (codes "") ∷ t (codes "--") ∷ []) 0 ≡ (n 1, t (codes "")) ∷ [])
    × (entries_after [] f.StringSplit (t (codes "1--2-3") ∷ t (codes "--") ∷ []) 0 ≡ (n 1, t (codes "1")) ∷ (n 2, t (codes "2-3")) ∷ [])
unfolding lib go_on choose index newindex arith compare callee_of concat_two length_of is_function metamethod as_number read_number read_with_base calculated table_at with_table same get set put border next_entry kind_of is_true name_of text_of as_plain error_text fresh look wait coroutine_of with_coroutine bounds goes_on iteration digits
string_3 = (refl, refl, refl, refl, refl, refl)
