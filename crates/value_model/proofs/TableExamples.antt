-- Examples of `table`, and the walk and border of tables, computed.
use Rattle.std.proofs.Common.{◌≡◌, negsuc, List, [], ◌∷◌, refl, Some, true}
use Rattle.std.specs.Prelude.{codes}
use Rattle.value_model.specs.Values.{Own, Nil, Number, kind_of, is_true}
use Rattle.value_model.specs.Tables.{same, get, set, put, border, next_entry}
use Rattle.value_model.specs.Store.{TableOf, table_at, with_table}
use Rattle.whole_num.specs.NumberTexts.{read_number, read_with_base}
use Rattle.value_model.specs.Metamethods.{index, newindex, arith, choose, is_function, metamethod, as_number, compare, callee_of, concat_two, length_of}
use Rattle.value_model.specs.Names.{name_of, text_of, as_plain}
use Rattle.value_model.specs.Operators.{calculated}
use Rattle.value_model.specs.Errors.{error_text}
use Rattle.value_model.specs.Library.{lib, go_on}
use Rattle.value_model.specs.Waiting.{wait}
use Rattle.value_model.specs.CoroutineRows.{coroutine_of, with_coroutine}
use Rattle.value_model.specs.Loops.{bounds, goes_on, iteration}
use Rattle.value_model.specs.Fresh.{fresh, look}
use Rattle.std.specs.Fmt.{digits}
use Rattle.value_model.specs.declared.builtin.Builtin.TheVariants as f
use Rattle.value_model.proofs.Examples.{n, t, yes, no, own, list_of, call, entries_after, Gave, Failed, Halted}
use Rattle.value_model.specs.Store.{empty_table}
use Rattle.whole_num.specs.declared.arithmetic.Stop.TheVariants.{OutOfRange}

-- a table whose metatable hides itself, and one without a metatable
abbrev shielded : List TableOf
shielded = record empty_table { meta = Some (Own 4) } ∷ empty_table ∷ record empty_table { entries = (t (codes "__metatable"), t (codes "locked")) ∷ [] } ∷ []

-- a list with a gap
abbrev gaps : List TableOf
gaps = put (list_of (n 1 ∷ n 2 ∷ n 3 ∷ [])) (n 2) Nil ∷ []

pub table_1 :
    (entries_after (list_of (n 1 ∷ n 2 ∷ n 3 ∷ []) ∷ []) f.TableInsert (own 0 ∷ n 4 ∷ []) 0 ≡ (n 1, n 1) ∷ (n 2, n 2) ∷ (n 3, n 3) ∷ (n 4, n 4) ∷ [])
    × (entries_after (list_of (n 1 ∷ n 2 ∷ n 3 ∷ []) ∷ []) f.TableInsert (own 0 ∷ n 1 ∷ n 9 ∷ []) 0 ≡ (n 1, n 9) ∷ (n 2, n 1) ∷ (n 3, n 2) ∷ (n 4, n 3) ∷ [])
    × (call (list_of (n 1 ∷ n 2 ∷ n 3 ∷ []) ∷ []) f.TableInsert (own 0 ∷ n 5 ∷ n 9 ∷ []) ≡ Failed (codes "invalid argument #2 to 'insert' (out of range)"))
    × (call (record (list_of (n 1 ∷ [])) { frozen = true } ∷ []) f.TableInsert (own 0 ∷ n 9 ∷ []) ≡ Failed (codes "attempt to modify a readonly table"))
    × (call (list_of (n 1 ∷ n 2 ∷ n 3 ∷ []) ∷ []) f.TableInsert (own 0 ∷ []) ≡ Failed (codes "missing argument #2 to 'insert' (value expected)"))
    × (call (list_of (n 1 ∷ n 2 ∷ n 3 ∷ []) ∷ []) f.TableRemove (own 0 ∷ n 1 ∷ []) ≡ Gave (n 1 ∷ []))
    × (entries_after (list_of (n 1 ∷ n 2 ∷ n 3 ∷ []) ∷ []) f.TableRemove (own 0 ∷ n 1 ∷ []) 0 ≡ (n 1, n 2) ∷ (n 2, n 3) ∷ (n 3, Nil) ∷ [])
    × (call (list_of (n 1 ∷ n 2 ∷ n 3 ∷ []) ∷ []) f.TableRemove (own 0 ∷ n 4 ∷ []) ≡ Gave (Nil ∷ []))
unfolding lib go_on choose index newindex arith compare callee_of concat_two length_of is_function metamethod as_number read_number read_with_base calculated table_at with_table same get set put border next_entry kind_of is_true name_of text_of as_plain error_text fresh look wait coroutine_of with_coroutine bounds goes_on iteration digits
table_1 = (refl, refl, refl, refl, refl, refl, refl, refl)

pub table_2 :
    (call (list_of (n 1 ∷ n 2 ∷ n 3 ∷ []) ∷ []) f.TableRemove (own 0 ∷ []) ≡ Gave (n 3 ∷ []))
    × (call (record (list_of (n 1 ∷ [])) { frozen = true } ∷ []) f.TableRemove (own 0 ∷ n 7 ∷ []) ≡ Failed (codes "attempt to modify a readonly table"))
    × (call (list_of (n 1 ∷ n 2 ∷ n 3 ∷ []) ∷ []) f.TableConcat (own 0 ∷ t (codes "-") ∷ []) ≡ Gave (t (codes "1-2-3") ∷ []))
    × (call (list_of (n 1 ∷ n 2 ∷ n 3 ∷ []) ∷ []) f.TableConcat (own 0 ∷ t (codes "") ∷ n 2 ∷ n 3 ∷ []) ≡ Gave (t (codes "23") ∷ []))
    × (call (list_of (yes ∷ []) ∷ []) f.TableConcat (own 0 ∷ []) ≡ Failed (codes "invalid value (boolean) at index 1 in 'concat'"))
    × (call (list_of (n 1 ∷ n 2 ∷ n 3 ∷ []) ∷ []) f.TableUnpack (own 0 ∷ n 2 ∷ n 4 ∷ []) ≡ Gave (n 2 ∷ n 3 ∷ Nil ∷ []))
    × (call (list_of (n 1 ∷ n 2 ∷ n 3 ∷ []) ∷ []) f.TableUnpack (own 0 ∷ n 1 ∷ n 8001 ∷ []) ≡ Failed (codes "too many values"))
    × (entries_after [] f.TablePack (t (codes "a") ∷ Nil ∷ []) 0 ≡ (n 1, t (codes "a")) ∷ (t (codes "n"), n 2) ∷ [])
unfolding lib go_on choose index newindex arith compare callee_of concat_two length_of is_function metamethod as_number read_number read_with_base calculated table_at with_table same get set put border next_entry kind_of is_true name_of text_of as_plain error_text fresh look wait coroutine_of with_coroutine bounds goes_on iteration digits
table_2 = (refl, refl, refl, refl, refl, refl, refl, refl)

pub table_3 :
    (entries_after [] f.TableCreate (n 2 ∷ t (codes "z") ∷ []) 0 ≡ (n 1, t (codes "z")) ∷ (n 2, t (codes "z")) ∷ [])
    × (call [] f.TableCreate (n 16777217 ∷ []) ≡ Failed (codes "too many values"))
    × (call [] f.TableCreate (Number (negsuc 0) ∷ n 1 ∷ []) ≡ Gave (own 0 ∷ []))
    × (call (list_of (n 1 ∷ n 2 ∷ n 3 ∷ []) ∷ []) f.TableFind (own 0 ∷ n 3 ∷ []) ≡ Gave (n 3 ∷ []))
    × (call (list_of (n 1 ∷ n 2 ∷ n 3 ∷ []) ∷ []) f.TableFind (own 0 ∷ n 1 ∷ n 2 ∷ []) ≡ Gave (Nil ∷ []))
    × (entries_after (list_of (n 1 ∷ n 2 ∷ n 3 ∷ []) ∷ []) f.TableClear (own 0 ∷ []) 0 ≡ (n 1, Nil) ∷ (n 2, Nil) ∷ (n 3, Nil) ∷ [])
    × (call (record (list_of (n 1 ∷ [])) { frozen = true } ∷ []) f.TableClear (own 0 ∷ []) ≡ Failed (codes "attempt to modify a readonly table"))
    × (entries_after gaps f.TableClone (own 0 ∷ []) 1 ≡ (n 1, n 1) ∷ (n 3, n 3) ∷ [])
unfolding lib go_on choose index newindex arith compare callee_of concat_two length_of is_function metamethod as_number read_number read_with_base calculated table_at with_table same get set put border next_entry kind_of is_true name_of text_of as_plain error_text fresh look wait coroutine_of with_coroutine bounds goes_on iteration digits
table_3 = (refl, refl, refl, refl, refl, refl, refl, refl)

pub table_4 :
    (call shielded f.TableClone (own 0 ∷ []) ≡ Failed (codes "cannot change a protected metatable"))
    × (call (list_of (n 1 ∷ n 2 ∷ n 3 ∷ []) ∷ []) f.TableFreeze (own 0 ∷ []) ≡ Gave (own 0 ∷ []))
    × (call (record (list_of (n 1 ∷ [])) { frozen = true } ∷ []) f.TableIsfrozen (own 0 ∷ []) ≡ Gave (yes ∷ []))
    × (call (list_of (n 1 ∷ n 2 ∷ n 3 ∷ []) ∷ []) f.TableIsfrozen (own 0 ∷ []) ≡ Gave (no ∷ []))
    × (call (list_of (n 1 ∷ n 2 ∷ n 3 ∷ []) ∷ []) f.TableMove (own 0 ∷ n 1 ∷ n 3 ∷ n 2 ∷ []) ≡ Gave (own 0 ∷ []))
    × (entries_after (list_of (n 1 ∷ n 2 ∷ n 3 ∷ []) ∷ []) f.TableMove (own 0 ∷ n 1 ∷ n 3 ∷ n 2 ∷ []) 0 ≡ (n 1, n 1) ∷ (n 2, n 1) ∷ (n 3, n 2) ∷ (n 4, n 3) ∷ [])
    × (call (record (list_of (n 1 ∷ [])) { frozen = true } ∷ []) f.TableMove (own 0 ∷ n 1 ∷ n 1 ∷ n 9007199254740992 ∷ own 0 ∷ []) ≡ Failed (codes "attempt to modify a readonly table"))
    × (call (list_of (n 1 ∷ n 2 ∷ n 3 ∷ []) ∷ []) f.TableMove (own 0 ∷ n 1 ∷ n 2 ∷ n 9007199254740992 ∷ []) ≡ Halted OutOfRange)
unfolding lib go_on choose index newindex arith compare callee_of concat_two length_of is_function metamethod as_number read_number read_with_base calculated table_at with_table same get set put border next_entry kind_of is_true name_of text_of as_plain error_text fresh look wait coroutine_of with_coroutine bounds goes_on iteration digits
table_4 = (refl, refl, refl, refl, refl, refl, refl, refl)

pub table_5 :
    (call (list_of (n 1 ∷ n 2 ∷ n 3 ∷ []) ∷ []) f.TableMove (own 0 ∷ n 1 ∷ n 16777217 ∷ n 1 ∷ []) ≡ Failed (codes "too many values"))
    × (entries_after (list_of (n 3 ∷ Number (negsuc 0) ∷ n 2 ∷ []) ∷ []) f.TableSort (own 0 ∷ []) 0 ≡ (n 1, Number (negsuc 0)) ∷ (n 2, n 2) ∷ (n 3, n 3) ∷ [])
    × (call (list_of (n 3 ∷ t (codes "a") ∷ []) ∷ []) f.TableSort (own 0 ∷ []) ≡ Failed (codes "attempt to compare number < string"))
    × (call (list_of (yes ∷ n 1 ∷ []) ∷ []) f.TableSort (own 0 ∷ []) ≡ Failed (codes "attempt to compare boolean < boolean"))
    × (call (record (list_of (n 1 ∷ [])) { frozen = true } ∷ []) f.TableSort (own 0 ∷ []) ≡ Failed (codes "attempt to modify a readonly table"))
    × (next_entry (put (put (put (put (put empty_table (t (codes "a")) (n 1)) (t (codes "b")) (n 2)) (t (codes "a")) Nil) (t (codes "c")) (n 3)) (t (codes "a")) (n 4)) Nil ≡ Some (Some (t (codes "a"), n 4)))
    × (border (list_of (n 1 ∷ n 2 ∷ Nil ∷ n 4 ∷ [])) ≡ 2)
unfolding lib go_on choose index newindex arith compare callee_of concat_two length_of is_function metamethod as_number read_number read_with_base calculated table_at with_table same get set put border next_entry kind_of is_true name_of text_of as_plain error_text fresh look wait coroutine_of with_coroutine bounds goes_on iteration digits
table_5 = (refl, refl, refl, refl, refl, refl, refl)
