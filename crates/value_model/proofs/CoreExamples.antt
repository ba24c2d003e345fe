-- Examples of the functions of the global table, computed.
use Rattle.std.proofs.Common.{◌≡◌, negsuc, List, [], ◌∷◌, ◌++◌, refl, Some, true, false}
use Rattle.std.specs.Prelude.{codes}
use Rattle.value_model.specs.Values.{Shared, Own, Nil, Number, Table, Closure, Native, Wrap, Thread, kind_of, is_true}
use Rattle.value_model.specs.Tables.{same, get, set, put, border, next_entry}
use Rattle.value_model.specs.Store.{TableOf, table_at, with_table}
use Rattle.whole_num.specs.NumberTexts.{read_number, read_with_base}
use Rattle.value_model.specs.Metamethods.{index, newindex, arith, choose, is_function, metamethod, as_number, compare, callee_of, concat_two, length_of}
use Rattle.value_model.specs.Names.{name_of, text_of, as_plain}
use Rattle.value_model.specs.Operators.{calculated}
use Rattle.value_model.specs.Errors.{error_text}
use Rattle.value_model.specs.Library.{lib, go_on}
use Rattle.value_model.specs.Waiting.{wait}
use Rattle.value_model.specs.CoroutineRows.{coroutine_of, with_coroutine}
use Rattle.value_model.specs.Loops.{bounds, goes_on, iteration}
use Rattle.value_model.specs.Fresh.{fresh, look}
use Rattle.std.specs.Fmt.{digits}
use Rattle.value_model.specs.declared.builtin.Builtin.TheVariants as f
use Rattle.value_model.proofs.Examples.{n, t, yes, no, own, list_of, call, entries_after, Gave, Failed, Halted, Raised, Printed, Asked, Looks}
use Rattle.value_model.specs.Store.{empty_table}
use Rattle.value_model.specs.Waits.{ByError, Elsewise}
use Rattle.whole_num.specs.declared.arithmetic.Stop.TheVariants.{NotWhole, OutOfRange}
use Rattle.value_model.specs.Answers.{Reads, Replaces, Innermost, OfFunction, OfScript}

-- a table whose metatable hides itself, and one without a metatable
abbrev shielded : List TableOf
shielded = record empty_table { meta = Some (Own 4) } ∷ empty_table ∷ record empty_table { entries = (t (codes "__metatable"), t (codes "locked")) ∷ [] } ∷ []

pub core_1 :
    (call [] f.Print (n 1 ∷ t (codes "a") ∷ Nil ∷ yes ∷ []) ≡ Printed (codes "1" ++ 9 ∷ codes "a" ++ 9 ∷ codes "nil" ++ 9 ∷ codes "true"))
    × (call [] f.Print [] ≡ Printed [])
    × (call [] f.Type (Native f.Next ∷ []) ≡ Gave (t (codes "function") ∷ []))
    × (call [] f.Typeof (Nil ∷ []) ≡ Gave (t (codes "nil") ∷ []))
    × (call [] f.Type [] ≡ Failed (codes "missing argument #1 to 'type' (value expected)"))
    × (call [] f.Tostring (Number (negsuc 11) ∷ []) ≡ Gave (t (codes "-12") ∷ []))
    × (call [] f.Tostring (Native f.MathMax ∷ []) ≡ Gave (t (codes "function: math.max") ∷ []))
    × (call (list_of [] ∷ []) f.Tostring (own 0 ∷ []) ≡ Gave (t (codes "table: 1") ∷ []))
unfolding lib go_on choose index newindex arith compare callee_of concat_two length_of is_function metamethod as_number read_number read_with_base calculated table_at with_table same get set put border next_entry kind_of is_true name_of text_of as_plain error_text fresh look wait coroutine_of with_coroutine bounds goes_on iteration digits
core_1 = (refl, refl, refl, refl, refl, refl, refl, refl)

pub core_2 :
    (call [] f.Tostring (Native f.TableUnpack ∷ []) ≡ Gave (t (codes "function: table.unpack") ∷ []))
    × (call [] f.Tostring (Table (Own 0) ∷ []) ≡ Gave (t (codes "table: environment") ∷ []))
    × (call [] f.Tostring (Table (Own 1) ∷ []) ≡ Gave (t (codes "table: environment metatable") ∷ []))
    × (call [] f.Tostring (Table (Shared 0) ∷ []) ≡ Gave (t (codes "table: global") ∷ []))
    × (call [] f.Tostring (Table (Shared 1) ∷ []) ≡ Gave (t (codes "table: string metatable") ∷ []))
    × (call [] f.Tostring (Table (Shared 2) ∷ []) ≡ Gave (t (codes "table: math") ∷ []))
    × (call [] f.Tostring (Closure 0 ∷ []) ≡ Gave (t (codes "function: 0") ∷ []))
    × (call [] f.Tostring (Closure 3 ∷ []) ≡ Gave (t (codes "function: 3") ∷ []))
unfolding lib go_on choose index newindex arith compare callee_of concat_two length_of is_function metamethod as_number read_number read_with_base calculated table_at with_table same get set put border next_entry kind_of is_true name_of text_of as_plain error_text fresh look wait coroutine_of with_coroutine bounds goes_on iteration digits
core_2 = (refl, refl, refl, refl, refl, refl, refl, refl)

pub core_3 :
    (call [] f.Tostring (Wrap 2 ∷ []) ≡ Gave (t (codes "function: wrap 2") ∷ []))
    × (call [] f.Tostring (Thread 2 ∷ []) ≡ Gave (t (codes "thread: 2") ∷ []))
    × (call [] f.Tostring (Native f.IpairsIterator ∷ []) ≡ Gave (t (codes "function: ipairs iterator") ∷ []))
    × (call [] f.Tonumber (t (codes " 0x1F ") ∷ []) ≡ Gave (n 31 ∷ []))
    × (call [] f.Tonumber (t (codes "12.50e1") ∷ []) ≡ Gave (n 125 ∷ []))
    × (call [] f.Tonumber (t (codes "1.5") ∷ []) ≡ Halted NotWhole)
    × (call [] f.Tonumber (t (codes "1e16") ∷ []) ≡ Halted OutOfRange)
    × (call [] f.Tonumber (t (codes "ten") ∷ []) ≡ Gave (Nil ∷ []))
unfolding lib go_on choose index newindex arith compare callee_of concat_two length_of is_function metamethod as_number read_number read_with_base calculated table_at with_table same get set put border next_entry kind_of is_true name_of text_of as_plain error_text fresh look wait coroutine_of with_coroutine bounds goes_on iteration digits
core_3 = (refl, refl, refl, refl, refl, refl, refl, refl)

pub core_4 :
    (call [] f.Tonumber (yes ∷ []) ≡ Gave (Nil ∷ []))
    × (call [] f.Tonumber (t (codes " -zz") ∷ n 36 ∷ []) ≡ Gave (Number (negsuc 1294) ∷ []))
    × (call [] f.Tonumber (t (codes "12") ∷ n 2 ∷ []) ≡ Gave (Nil ∷ []))
    × (call [] f.Tonumber (n 11 ∷ n 2 ∷ []) ≡ Gave (n 3 ∷ []))
    × (call [] f.Tonumber (t (codes "1") ∷ n 37 ∷ []) ≡ Failed (codes "invalid argument #2 to 'tonumber' (out of range)"))
    × (call [] f.Assert (n 1 ∷ t (codes "m") ∷ []) ≡ Gave (n 1 ∷ t (codes "m") ∷ []))
    × (call [] f.Assert (no ∷ []) ≡ Failed (codes "assertion failed!"))
    × (call [] f.Assert (no ∷ Nil ∷ []) ≡ Raised Nil Elsewise)
unfolding lib go_on choose index newindex arith compare callee_of concat_two length_of is_function metamethod as_number read_number read_with_base calculated table_at with_table same get set put border next_entry kind_of is_true name_of text_of as_plain error_text fresh look wait coroutine_of with_coroutine bounds goes_on iteration digits
core_4 = (refl, refl, refl, refl, refl, refl, refl, refl)

pub core_5 :
    (call [] f.Error (t (codes "e") ∷ []) ≡ Raised (t (codes "e")) (ByError false))
    × (call [] f.Error (t (codes "e") ∷ n 0 ∷ []) ≡ Raised (t (codes "e")) (ByError true))
    × (call [] f.Pcall (Native f.Error ∷ n 1 ∷ []) ≡ Asked (Native f.Error) (n 1 ∷ []))
    × (call [] f.Xpcall (Nil ∷ Native f.Print ∷ n 2 ∷ []) ≡ Asked Nil (n 2 ∷ []))
    × (call [] f.Xpcall (Nil ∷ n 1 ∷ []) ≡ Failed (codes "invalid argument #2 to 'xpcall' (function expected, got number)"))
    × (call [] f.Select (n 2 ∷ t (codes "a") ∷ t (codes "b") ∷ t (codes "c") ∷ []) ≡ Gave (t (codes "b") ∷ t (codes "c") ∷ []))
    × (call [] f.Select (Number (negsuc 0) ∷ t (codes "a") ∷ t (codes "b") ∷ []) ≡ Gave (t (codes "b") ∷ []))
    × (call [] f.Select (t (codes "#") ∷ Nil ∷ Nil ∷ []) ≡ Gave (n 2 ∷ []))
unfolding lib go_on choose index newindex arith compare callee_of concat_two length_of is_function metamethod as_number read_number read_with_base calculated table_at with_table same get set put border next_entry kind_of is_true name_of text_of as_plain error_text fresh look wait coroutine_of with_coroutine bounds goes_on iteration digits
core_5 = (refl, refl, refl, refl, refl, refl, refl, refl)

pub core_6 :
    (call [] f.Select (n 0 ∷ []) ≡ Failed (codes "invalid argument #1 to 'select' (out of range)"))
    × (call [] f.Select (Number (negsuc 1) ∷ t (codes "a") ∷ []) ≡ Failed (codes "invalid argument #1 to 'select' (out of range)"))
    × (call (list_of (t (codes "x") ∷ []) ∷ []) f.Next (own 0 ∷ []) ≡ Gave (n 1 ∷ t (codes "x") ∷ []))
    × (call (list_of (t (codes "x") ∷ []) ∷ []) f.Next (own 0 ∷ n 1 ∷ []) ≡ Gave (Nil ∷ []))
    × (call (list_of (t (codes "x") ∷ []) ∷ []) f.Next (own 0 ∷ n 2 ∷ []) ≡ Failed (codes "invalid key to 'next'"))
    × (call [] f.Pairs (own 0 ∷ []) ≡ Gave (Native f.Next ∷ own 0 ∷ Nil ∷ []))
    × (call [] f.Ipairs (own 0 ∷ []) ≡ Gave (Native f.IpairsIterator ∷ own 0 ∷ n 0 ∷ []))
    × (call (list_of (n 1 ∷ n 2 ∷ n 3 ∷ []) ∷ []) f.IpairsIterator (own 0 ∷ n 1 ∷ []) ≡ Gave (n 2 ∷ n 2 ∷ []))
unfolding lib go_on choose index newindex arith compare callee_of concat_two length_of is_function metamethod as_number read_number read_with_base calculated table_at with_table same get set put border next_entry kind_of is_true name_of text_of as_plain error_text fresh look wait coroutine_of with_coroutine bounds goes_on iteration digits
core_6 = (refl, refl, refl, refl, refl, refl, refl, refl)

pub core_7 :
    (call (list_of (n 1 ∷ n 2 ∷ n 3 ∷ []) ∷ []) f.IpairsIterator (own 0 ∷ n 3 ∷ []) ≡ Gave (Nil ∷ []))
    × (call [] f.IpairsIterator (n 1 ∷ []) ≡ Failed (codes "invalid argument #1 to 'ipairs iterator' (table expected, got number)"))
    × (call (list_of (n 1 ∷ n 2 ∷ n 3 ∷ []) ∷ []) f.Rawget (own 0 ∷ n 3 ∷ []) ≡ Gave (n 3 ∷ []))
    × (call (list_of (n 1 ∷ n 2 ∷ n 3 ∷ []) ∷ []) f.Rawset (own 0 ∷ n 1 ∷ n 9 ∷ []) ≡ Gave (own 0 ∷ []))
    × (entries_after (list_of (n 1 ∷ n 2 ∷ n 3 ∷ []) ∷ []) f.Rawset (own 0 ∷ n 1 ∷ n 9 ∷ []) 0 ≡ (n 1, n 9) ∷ (n 2, n 2) ∷ (n 3, n 3) ∷ [])
    × (call (list_of (n 1 ∷ n 2 ∷ n 3 ∷ []) ∷ []) f.Rawset (own 0 ∷ Nil ∷ n 9 ∷ []) ≡ Failed (codes "table index is nil"))
    × (call [] f.Rawset (Table (Shared 2) ∷ t (codes "max") ∷ n 1 ∷ []) ≡ Failed (codes "attempt to modify a readonly table"))
    × (call [] f.Rawequal (t (codes "1") ∷ n 1 ∷ []) ≡ Gave (no ∷ []))
unfolding lib go_on choose index newindex arith compare callee_of concat_two length_of is_function metamethod as_number read_number read_with_base calculated table_at with_table same get set put border next_entry kind_of is_true name_of text_of as_plain error_text fresh look wait coroutine_of with_coroutine bounds goes_on iteration digits
core_7 = (refl, refl, refl, refl, refl, refl, refl, refl)

pub core_8 :
    (call [] f.Rawequal (own 0 ∷ own 0 ∷ []) ≡ Gave (yes ∷ []))
    × (call (list_of (n 1 ∷ n 2 ∷ n 3 ∷ []) ∷ []) f.Rawlen (own 0 ∷ []) ≡ Gave (n 3 ∷ []))
    × (call [] f.Rawlen (t (codes "abc") ∷ []) ≡ Gave (n 3 ∷ []))
    × (call [] f.Rawlen (n 5 ∷ []) ≡ Failed (codes "invalid argument #1 to 'rawlen' (table expected, got number)"))
    × (call [] f.Getmetatable (t (codes "a") ∷ []) ≡ Gave (Table (Shared 1) ∷ []))
    × (call [] f.Getmetatable (n 1 ∷ []) ≡ Gave (Nil ∷ []))
    × (call shielded f.Getmetatable (own 0 ∷ []) ≡ Gave (t (codes "locked") ∷ []))
    × (call shielded f.Setmetatable (own 1 ∷ Nil ∷ []) ≡ Gave (own 1 ∷ []))
unfolding lib go_on choose index newindex arith compare callee_of concat_two length_of is_function metamethod as_number read_number read_with_base calculated table_at with_table same get set put border next_entry kind_of is_true name_of text_of as_plain error_text fresh look wait coroutine_of with_coroutine bounds goes_on iteration digits
core_8 = (refl, refl, refl, refl, refl, refl, refl, refl)

pub core_9 :
    (call shielded f.Setmetatable (own 0 ∷ Nil ∷ []) ≡ Failed (codes "cannot change a protected metatable"))
    × (call [] f.Setmetatable (own 0 ∷ []) ≡ Failed (codes "missing argument #2 to 'setmetatable' (table expected)"))
    × (call [] f.Setmetatable (Table (Shared 2) ∷ Nil ∷ []) ≡ Failed (codes "attempt to modify a readonly table"))
    × (call (list_of (n 1 ∷ n 2 ∷ n 3 ∷ []) ∷ []) f.TableUnpack (own 0 ∷ []) ≡ Gave (n 1 ∷ n 2 ∷ n 3 ∷ []))
    × (call [] f.Getfenv [] ≡ Looks (Reads Innermost))
    × (call [] f.Getfenv (n 0 ∷ []) ≡ Looks (Reads OfScript))
    × (call [] f.Getfenv (Closure 2 ∷ []) ≡ Looks (Reads (OfFunction 2)))
    × (call [] f.Getfenv (n 2 ∷ []) ≡ Failed (codes "invalid argument #1 to 'getfenv' (out of range)"))
unfolding lib go_on choose index newindex arith compare callee_of concat_two length_of is_function metamethod as_number read_number read_with_base calculated table_at with_table same get set put border next_entry kind_of is_true name_of text_of as_plain error_text fresh look wait coroutine_of with_coroutine bounds goes_on iteration digits
core_9 = (refl, refl, refl, refl, refl, refl, refl, refl)

pub core_10 :
    (call [] f.Getfenv (t (codes "1") ∷ []) ≡ Failed (codes "invalid argument #1 to 'getfenv' (function expected, got string)"))
    × (call [] f.Setfenv (n 1 ∷ own 0 ∷ []) ≡ Looks (Replaces Innermost (Own 2)))
    × (call [] f.Setfenv (Native f.Next ∷ own 0 ∷ []) ≡ Failed (codes "cannot change environment of this function"))
    × (call [] f.Setfenv (n 0 ∷ own 0 ∷ []) ≡ Failed (codes "cannot change environment of this function"))
unfolding lib go_on choose index newindex arith compare callee_of concat_two length_of is_function metamethod as_number read_number read_with_base calculated table_at with_table same get set put border next_entry kind_of is_true name_of text_of as_plain error_text fresh look wait coroutine_of with_coroutine bounds goes_on iteration digits
core_10 = (refl, refl, refl, refl)
