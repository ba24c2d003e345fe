-- Examples of `string.format`, computed.
use Rattle.std.proofs.Common.{◌≡◌, negsuc, List, [], ◌∷◌, refl, Some}
use Rattle.std.specs.Prelude.{codes}
use Rattle.value_model.specs.Values.{Own, Nil, Number, Native, kind_of, is_true}
use Rattle.value_model.specs.Tables.{same, get, set, put, border, next_entry}
use Rattle.value_model.specs.Store.{TableOf, table_at, with_table}
use Rattle.whole_num.specs.NumberTexts.{read_number, read_with_base}
use Rattle.value_model.specs.Metamethods.{index, newindex, arith, choose, is_function, metamethod, as_number, compare, callee_of, concat_two, length_of}
use Rattle.value_model.specs.Names.{name_of, text_of, as_plain}
use Rattle.value_model.specs.Operators.{calculated}
use Rattle.value_model.specs.Errors.{error_text}
use Rattle.value_model.specs.Library.{lib, go_on}
use Rattle.value_model.specs.Waiting.{wait}
use Rattle.value_model.specs.CoroutineRows.{coroutine_of, with_coroutine}
use Rattle.value_model.specs.Loops.{bounds, goes_on, iteration}
use Rattle.value_model.specs.Fresh.{fresh, look}
use Rattle.std.specs.Fmt.{digits}
use Rattle.value_model.specs.declared.builtin.Builtin.TheVariants as f
use Rattle.value_model.proofs.Examples.{n, t, own, call, Gave, Failed, Asked}
use Rattle.value_model.specs.Store.{empty_table}

-- a table that tells its text by `tostring`
abbrev telling : List TableOf
telling = record empty_table { meta = Some (Own 3) } ∷ record empty_table { entries = (t (codes "__tostring"), Native f.Tostring) ∷ [] } ∷ []

pub format_1 :
    (call [] f.StringFormat (t (codes "%-4d|%03d") ∷ n 7 ∷ Number (negsuc 4) ∷ []) ≡ Gave (t (codes "7   |-05") ∷ []))
    × (call [] f.StringFormat (t (codes "%% %* %s") ∷ Nil ∷ n 3 ∷ []) ≡ Gave (t (codes "% nil 3") ∷ []))
    × (call [] f.StringFormat (t (codes "%x%X") ∷ n 255 ∷ n 171 ∷ []) ≡ Gave (t (codes "ffAB") ∷ []))
    × (call [] f.StringFormat (t (codes "%3c|%-2c|") ∷ n 65 ∷ n 66 ∷ []) ≡ Gave (t (codes "  A|B |") ∷ []))
    × (call [] f.StringFormat (t (codes "%05s") ∷ t (codes "ab") ∷ []) ≡ Gave (t (codes "   ab") ∷ []))
    × (call [] f.StringFormat (t (codes "%-05d|") ∷ n 7 ∷ []) ≡ Gave (t (codes "7    |") ∷ []))
    × (call [] f.StringFormat (t (codes "%x") ∷ Number (negsuc 0) ∷ []) ≡ Failed (codes "invalid argument #2 to 'format' (out of range)"))
    × (call [] f.StringFormat (t (codes "%c") ∷ n 256 ∷ []) ≡ Failed (codes "invalid argument #2 to 'format' (out of range)"))
unfolding lib go_on choose index newindex arith compare callee_of concat_two length_of is_function metamethod as_number read_number read_with_base calculated table_at with_table same get set put border next_entry kind_of is_true name_of text_of as_plain error_text fresh look wait coroutine_of with_coroutine bounds goes_on iteration digits
format_1 = (refl, refl, refl, refl, refl, refl, refl, refl)

pub format_2 :
    (call [] f.StringFormat (t (codes "%d %q") ∷ n 1 ∷ []) ≡ Failed (codes "invalid directive in 'format'"))
    × (call [] f.StringFormat (t (codes "%d %q") ∷ []) ≡ Failed (codes "missing argument #2 to 'format' (number expected)"))
    × (call [] f.StringFormat (t (codes "100%") ∷ []) ≡ Failed (codes "invalid directive in 'format'"))
    × (call [] f.StringFormat (t (codes "%0005d") ∷ n 1 ∷ []) ≡ Failed (codes "invalid directive in 'format'"))
    × (call telling f.StringFormat (t (codes "%s") ∷ own 0 ∷ []) ≡ Asked (Native f.Tostring) (own 0 ∷ []))
unfolding lib go_on choose index newindex arith compare callee_of concat_two length_of is_function metamethod as_number read_number read_with_base calculated table_at with_table same get set put border next_entry kind_of is_true name_of text_of as_plain error_text fresh look wait coroutine_of with_coroutine bounds goes_on iteration digits
format_2 = (refl, refl, refl, refl, refl)
