-- Examples of operations that metamethods may answer, and of loops, computed.
use Rattle.std.proofs.Common.{◌≡◌, ℕ, pos, negsuc, List, [], ◌∷◌, ◌++◌, refl, Some, true, false}
use Rattle.std.specs.Prelude.{codes}
use Rattle.value_model.specs.Values.{Bytes, Shared, Own, Value, Nil, Number, Text, Table, Native, kind_of, is_true}
use Rattle.value_model.specs.Tables.{same, get, set, put, border, next_entry}
use Rattle.value_model.specs.Store.{TableOf, table_at, with_table}
use Rattle.whole_num.specs.NumberTexts.{read_number, read_with_base}
use Rattle.value_model.specs.Metamethods.{index, newindex, arith, choose, is_function, metamethod, as_number, compare, callee_of, concat_two, length_of}
use Rattle.value_model.specs.Names.{name_of, text_of, as_plain}
use Rattle.value_model.specs.Operators.{calculated}
use Rattle.value_model.specs.Errors.{error_text}
use Rattle.value_model.specs.Library.{lib, go_on}
use Rattle.value_model.specs.Waiting.{wait}
use Rattle.value_model.specs.CoroutineRows.{coroutine_of, with_coroutine}
use Rattle.value_model.specs.Loops.{bounds, goes_on, iteration}
use Rattle.value_model.specs.Fresh.{fresh, look}
use Rattle.std.specs.Fmt.{digits}
use Rattle.value_model.specs.declared.builtin.Builtin.TheVariants as f
use Rattle.value_model.proofs.Examples.{n, t, yes, no, start, tables, own, list_of}
use Rattle.value_model.specs.Store.{empty_table}
use Rattle.whole_num.specs.declared.arithmetic.Stop.TheVariants.{NotWhole, OutOfRange}
use Rattle.value_model.specs.declared.kind.Kind.TheVariants as kind
use Rattle.value_model.specs.declared.operator.ArithOp.TheVariants as op
use Rattle.value_model.specs.declared.operator.CompareOp.TheVariants as order
use Rattle.value_model.specs.declared.error.LoopBound.TheVariants as bound
use Rattle.value_model.specs.Errors.{IndexWithName, IndexWith, CallOf, Arithmetic, Concatenate, CompareLess, CompareLessOrEqual, LengthOf, IterateOver, ReadonlyTable, NilKey, IndexChain, NewindexChain, ForBound}
use Rattle.value_model.specs.Choices.{Operation, Index, Newindex, Arith, Compare, Concat, Length, Callee, Outcome, Done, CallThis, Errs, Halts}
use Rattle.value_model.specs.Loops.{Range, Refused, Generates, CallsIter, NotIterable}
use Rattle.value_model.specs.Loops as loops

-- what an operation comes to among these tables
abbrev of : List TableOf → Operation → Outcome
of ts o = (choose o (tables ts)).outcome

-- how many tables it asks
abbrev asks : List TableOf → Operation → ℕ
asks ts o = (choose o (tables ts)).asked

-- the first table has the second for its metatable, where one value stands under one name
abbrev under : Bytes → Value → List TableOf
under name v = record empty_table { meta = Some (Own 3) } ∷ record empty_table { entries = (t name, v) ∷ [] } ∷ []

-- a table that is its own metatable, and the next link of each chain
abbrev loop : Bytes → List TableOf
loop name = record empty_table { entries = (t name, own 0) ∷ []; meta = Some (Own 2) } ∷ []

abbrev some_function : Value
some_function = Native f.Print

pub choices_1 :
    (of [] (Arith op.Idiv (n 7) (Number (negsuc 1))) ≡ Done (Number (negsuc 3)))
    × (of [] (Arith op.Mod (n 7) (Number (negsuc 1))) ≡ Done (Number (negsuc 0)))
    × (of [] (Arith op.Mod (Number (negsuc 6)) (n 2)) ≡ Done (n 1))
    × (of [] (Arith op.Div (n 6) (n 3)) ≡ Done (n 2))
    × (of [] (Arith op.Mul (n 0) (Number (negsuc 0))) ≡ Done (n 0))
    × (of [] (Arith op.Pow (n 2) (n 53)) ≡ Done (n 9007199254740992))
    × (of [] (Arith op.Pow (Number (negsuc 0)) (Number (negsuc 2))) ≡ Done (Number (negsuc 0)))
    × (of [] (Arith op.Pow (n 0) (n 0)) ≡ Done (n 1))
unfolding lib go_on choose index newindex arith compare callee_of concat_two length_of is_function metamethod as_number read_number read_with_base calculated table_at with_table same get set put border next_entry kind_of is_true name_of text_of as_plain error_text fresh look wait coroutine_of with_coroutine bounds goes_on iteration digits
choices_1 = (refl, refl, refl, refl, refl, refl, refl, refl)

pub choices_2 :
    (of [] (Arith op.Pow (n 2) (Number (negsuc 0))) ≡ Halts NotWhole)
    × (of [] (Arith op.Div (n 7) (n 2)) ≡ Halts NotWhole)
    × (of [] (Arith op.Idiv (n 1) (n 0)) ≡ Halts NotWhole)
    × (of [] (Arith op.Mod (n 1) (n 0)) ≡ Halts NotWhole)
    × (of [] (Arith op.Add (n 9007199254740992) (n 1)) ≡ Halts OutOfRange)
    × (of [] (Arith op.Sub (n 3) (n 5)) ≡ Done (Number (negsuc 1)))
    × (of [] (Arith op.Unm (n 3) (Nil)) ≡ Done (Number (negsuc 2)))
    × (of [] (Arith op.Unm (t (codes "-2")) (Nil)) ≡ Done (n 2))
unfolding lib go_on choose index newindex arith compare callee_of concat_two length_of is_function metamethod as_number read_number read_with_base calculated table_at with_table same get set put border next_entry kind_of is_true name_of text_of as_plain error_text fresh look wait coroutine_of with_coroutine bounds goes_on iteration digits
choices_2 = (refl, refl, refl, refl, refl, refl, refl, refl)

pub choices_3 :
    (of [] (Arith op.Add (t (codes "10")) (n 5)) ≡ Done (n 15))
    × (of [] (Arith op.Add (t (codes "+0xff")) (n 0)) ≡ Done (n 255))
    × (of [] (Arith op.Add (t (codes "1.5")) (own 0)) ≡ Errs (Arithmetic op.Add kind.String kind.Table))
    × (of [] (Arith op.Add (t (codes "x")) (t (codes "1.5"))) ≡ Errs (Arithmetic op.Add kind.String kind.String))
    × (of [] (Arith op.Add (t (codes "1e99")) (t (codes "1.5"))) ≡ Halts OutOfRange)
    × (of [] (Concat (n 1) (n 2)) ≡ Done (t (codes "12")))
    × (of [] (Concat Nil (t (codes "a"))) ≡ Errs (Concatenate kind.Nil kind.String))
    × (of [] (Length (Text (codes "caf" ++ 195 ∷ 169 ∷ []))) ≡ Done (n 5))
unfolding lib go_on choose index newindex arith compare callee_of concat_two length_of is_function metamethod as_number read_number read_with_base calculated table_at with_table same get set put border next_entry kind_of is_true name_of text_of as_plain error_text fresh look wait coroutine_of with_coroutine bounds goes_on iteration digits
choices_3 = (refl, refl, refl, refl, refl, refl, refl, refl)

pub choices_4 :
    (of (under (codes "__add") some_function) (Arith op.Add (n 1) (own 0)) ≡ CallThis some_function (n 1 ∷ own 0 ∷ []))
    × (of (under (codes "__unm") some_function) (Arith op.Unm (own 0) Nil) ≡ CallThis some_function (own 0 ∷ []))
    × (of (under (codes "__concat") some_function) (Concat (own 0) Nil) ≡ CallThis some_function (own 0 ∷ Nil ∷ []))
    × (of (under (codes "__add") no) (Arith op.Add (own 0) Nil) ≡ CallThis no (own 0 ∷ Nil ∷ []))
    × (of [] (Compare order.Lt (t (codes "B")) (t (codes "a"))) ≡ Done yes)
    × (of [] (Compare order.Lt (t (codes "a")) (t (codes "ab"))) ≡ Done yes)
    × (of [] (Compare order.Le (t (codes "ab")) (t (codes "a"))) ≡ Done no)
    × (of [] (Compare order.Le (n 2) (n 2)) ≡ Done yes)
unfolding lib go_on choose index newindex arith compare callee_of concat_two length_of is_function metamethod as_number read_number read_with_base calculated table_at with_table same get set put border next_entry kind_of is_true name_of text_of as_plain error_text fresh look wait coroutine_of with_coroutine bounds goes_on iteration digits
choices_4 = (refl, refl, refl, refl, refl, refl, refl, refl)

pub choices_5 :
    (of [] (Compare order.Lt (n 1) (t (codes "2"))) ≡ Errs (CompareLess kind.Number kind.String))
    × (of [] (Compare order.Le Nil Nil) ≡ Errs (CompareLessOrEqual kind.Nil kind.Nil))
    × (of [] (Compare order.Eq (n 1) (t (codes "1"))) ≡ Done no)
    × (of (under (codes "__eq") some_function) (Compare order.Eq (own 0) (own 1)) ≡ CallThis some_function (own 0 ∷ own 1 ∷ []))
    × (of (under (codes "__eq") some_function) (Compare order.Eq (own 0) (own 0)) ≡ Done yes)
    × (of (under (codes "__eq") some_function) (Compare order.Eq (own 0) Nil) ≡ Done no)
    × (of (under (codes "__lt") some_function) (Compare order.Lt Nil (own 0)) ≡ CallThis some_function (Nil ∷ own 0 ∷ []))
    × (of (under (codes "__lt") some_function) (Compare order.Le Nil (own 0)) ≡ Errs (CompareLessOrEqual kind.Nil kind.Table))
unfolding lib go_on choose index newindex arith compare callee_of concat_two length_of is_function metamethod as_number read_number read_with_base calculated table_at with_table same get set put border next_entry kind_of is_true name_of text_of as_plain error_text fresh look wait coroutine_of with_coroutine bounds goes_on iteration digits
choices_5 = (refl, refl, refl, refl, refl, refl, refl, refl)

pub choices_6 :
    (of (under (codes "__len") some_function) (Length (own 0)) ≡ CallThis some_function (own 0 ∷ []))
    × (of [] (Length yes) ≡ Errs (LengthOf kind.Boolean))
    × (of (list_of (n 1 ∷ n 2 ∷ []) ∷ []) (Length (own 0)) ≡ Done (n 2))
    × (of [] (Callee some_function) ≡ Done some_function)
    × (of (under (codes "__call") some_function) (Callee (own 0)) ≡ CallThis some_function (own 0 ∷ []))
    × (of (under (codes "__call") (own 1)) (Callee (own 0)) ≡ Errs (CallOf kind.Table))
    × (of [] (Callee (t (codes "f"))) ≡ Errs (CallOf kind.String))
    × (of [] (Index Nil (t (codes "b"))) ≡ Errs (IndexWithName kind.Nil (codes "b")))
unfolding lib go_on choose index newindex arith compare callee_of concat_two length_of is_function metamethod as_number read_number read_with_base calculated table_at with_table same get set put border next_entry kind_of is_true name_of text_of as_plain error_text fresh look wait coroutine_of with_coroutine bounds goes_on iteration digits
choices_6 = (refl, refl, refl, refl, refl, refl, refl, refl)

pub choices_7 :
    (asks [] (Index Nil (t (codes "b"))) ≡ 0)
    × (of [] (Index Nil yes) ≡ Errs (IndexWith kind.Nil kind.Boolean))
    × (of [] (Index (t (codes "abc")) (t (codes "len"))) ≡ Done (Native f.StringLen))
    × (asks [] (Index (t (codes "abc")) (t (codes "len"))) ≡ 1)
    × (of (list_of (n 7 ∷ []) ∷ []) (Index (own 0) (n 1)) ≡ Done (n 7))
    × (of (list_of [] ∷ []) (Index (own 0) Nil) ≡ Done Nil)
    × (of (under (codes "__index") some_function) (Index (own 0) (n 1)) ≡ CallThis some_function (own 0 ∷ n 1 ∷ []))
    × (asks (under (codes "__index") some_function) (Index (own 0) (n 1)) ≡ 1)
unfolding lib go_on choose index newindex arith compare callee_of concat_two length_of is_function metamethod as_number read_number read_with_base calculated table_at with_table same get set put border next_entry kind_of is_true name_of text_of as_plain error_text fresh look wait coroutine_of with_coroutine bounds goes_on iteration digits
choices_7 = (refl, refl, refl, refl, refl, refl, refl, refl)

pub choices_8 :
    (of (under (codes "__index") (t (codes "x"))) (Index (own 0) (t (codes "len"))) ≡ Done (Native f.StringLen))
    × (asks (under (codes "__index") (t (codes "x"))) (Index (own 0) (t (codes "len"))) ≡ 2)
    × (of (under (codes "__index") yes) (Index (own 0) (t (codes "k"))) ≡ Errs (IndexWithName kind.Boolean (codes "k")))
    × (of (loop (codes "__index")) (Index (own 0) (t (codes "k"))) ≡ Errs IndexChain)
    × (asks (loop (codes "__index")) (Index (own 0) (t (codes "k"))) ≡ 101)
    × (of (loop (codes "__newindex")) (Newindex (own 0) (t (codes "k")) yes) ≡ Errs NewindexChain)
    × (asks (loop (codes "__newindex")) (Newindex (own 0) (t (codes "k")) yes) ≡ 101)
    × (of [] (Newindex (t (codes "s")) (t (codes "k")) yes) ≡ Errs (IndexWithName kind.String (codes "k")))
unfolding lib go_on choose index newindex arith compare callee_of concat_two length_of is_function metamethod as_number read_number read_with_base calculated table_at with_table same get set put border next_entry kind_of is_true name_of text_of as_plain error_text fresh look wait coroutine_of with_coroutine bounds goes_on iteration digits
choices_8 = (refl, refl, refl, refl, refl, refl, refl, refl)

pub choices_9 :
    (of (list_of [] ∷ []) (Newindex (own 0) Nil yes) ≡ Errs NilKey)
    × (of [] (Newindex (Table (Shared 2)) Nil yes) ≡ Errs ReadonlyTable)
    × (of (under (codes "__newindex") some_function) (Newindex (own 0) (n 1) yes) ≡ CallThis some_function (own 0 ∷ n 1 ∷ yes ∷ []))
    × ((table_at (choose (Newindex (own 0) (n 1) yes) (tables (under (codes "__newindex") (own 1)))).store (Own 3)).entries ≡ (t (codes "__newindex"), own 1) ∷ (n 1, yes) ∷ [])
    × ((look (choose (Newindex (Table (Own 0)) (t (codes "math")) Nil) start).store (Own 0) (codes "math")).outcome ≡ Done (Table (Shared 2)))
    × ((look (choose (Newindex (Table (Own 0)) (t (codes "math")) (own 0)) (tables (empty_table ∷ []))).store (Own 0) (codes "math")).outcome ≡ Done (own 0))
    × (of (empty_table ∷ []) (Index (own 0) (t (codes "max"))) ≡ Done Nil)
    × (of [] (Callee Nil) ≡ Errs (CallOf kind.Nil))
unfolding lib go_on choose index newindex arith compare callee_of concat_two length_of is_function metamethod as_number read_number read_with_base calculated table_at with_table same get set put border next_entry kind_of is_true name_of text_of as_plain error_text fresh look wait coroutine_of with_coroutine bounds goes_on iteration digits
choices_9 = (refl, refl, refl, refl, refl, refl, refl, refl)

pub choices_10 :
    (of [] (Index (Table (Shared 2)) (t (codes "max"))) ≡ Done (Native f.MathMax))
    × ((look start (Own 0) (codes "unpack")).outcome ≡ Done (Native f.TableUnpack))
    × ((look start (Own 0) (codes "unpack")).asked ≡ 2)
    × ((look start (Own 0) (codes "missing")).outcome ≡ Done Nil)
    × (bounds (t (codes "2")) (n 5) (n 1) ≡ Range (pos 2) (pos 5) (pos 1))
    × (bounds (t (codes "1.5")) Nil Nil ≡ loops.Halted NotWhole)
    × (bounds Nil (t (codes "1.5")) Nil ≡ Refused (ForBound bound.Initial kind.Nil))
    × (bounds (n 1) (own 0) Nil ≡ Refused (ForBound bound.Limit kind.Table))
unfolding lib go_on choose index newindex arith compare callee_of concat_two length_of is_function metamethod as_number read_number read_with_base calculated table_at with_table same get set put border next_entry kind_of is_true name_of text_of as_plain error_text fresh look wait coroutine_of with_coroutine bounds goes_on iteration digits
choices_10 = (refl, refl, refl, refl, refl, refl, refl, refl)

pub choices_11 :
    (bounds (n 1) (n 2) yes ≡ Refused (ForBound bound.Step kind.Boolean))
    × (goes_on (pos 3) (pos 3) (pos 1) ≡ true)
    × (goes_on (pos 3) (pos 4) (pos 0) ≡ false)
    × (goes_on (pos 4) (pos 3) (negsuc 0) ≡ true)
    × (iteration (tables (empty_table ∷ [])) (own 0) yes no ≡ Generates (Native f.Next) (own 0) Nil)
    × (iteration (tables (under (codes "__iter") some_function)) (own 0) Nil Nil ≡ CallsIter some_function (own 0 ∷ []))
    × (iteration (tables (under (codes "__call") yes)) (own 0) yes no ≡ Generates (own 0) yes no)
    × (iteration start some_function yes no ≡ Generates some_function yes no)
unfolding lib go_on choose index newindex arith compare callee_of concat_two length_of is_function metamethod as_number read_number read_with_base calculated table_at with_table same get set put border next_entry kind_of is_true name_of text_of as_plain error_text fresh look wait coroutine_of with_coroutine bounds goes_on iteration digits
choices_11 = (refl, refl, refl, refl, refl, refl, refl, refl)

pub choices_12 :
    iteration start (n 3) Nil Nil ≡ NotIterable (IterateOver kind.Number)
unfolding lib go_on choose index newindex arith compare callee_of concat_two length_of is_function metamethod as_number read_number read_with_base calculated table_at with_table same get set put border next_entry kind_of is_true name_of text_of as_plain error_text fresh look wait coroutine_of with_coroutine bounds goes_on iteration digits
choices_12 = refl
