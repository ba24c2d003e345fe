-- Examples of `coroutine`, computed.
use Rattle.std.proofs.Common.{◌≡◌, [], ◌∷◌, refl}
use Rattle.std.specs.Prelude.{codes}
use Rattle.value_model.specs.Values.{Nil, Native, Wrap, Thread, kind_of, is_true}
use Rattle.value_model.specs.Tables.{same, get, set, put, border, next_entry}
use Rattle.value_model.specs.Store.{table_at, with_table}
use Rattle.whole_num.specs.NumberTexts.{read_number, read_with_base}
use Rattle.value_model.specs.Metamethods.{index, newindex, arith, choose, is_function, metamethod, as_number, compare, callee_of, concat_two, length_of}
use Rattle.value_model.specs.Names.{name_of, text_of, as_plain}
use Rattle.value_model.specs.Operators.{calculated}
use Rattle.value_model.specs.Errors.{error_text}
use Rattle.value_model.specs.Library.{lib, go_on}
use Rattle.value_model.specs.Waiting.{wait}
use Rattle.value_model.specs.CoroutineRows.{coroutine_of, with_coroutine}
use Rattle.value_model.specs.Loops.{bounds, goes_on, iteration}
use Rattle.value_model.specs.Fresh.{fresh, look}
use Rattle.std.specs.Fmt.{digits}
use Rattle.value_model.specs.declared.builtin.Builtin.TheVariants as f
use Rattle.value_model.proofs.Examples.{n, t, no, own, call, Gave, Failed, Moved}
use Rattle.value_model.specs.Answers.{Resume, Yield, Close}

pub coroutine_1 :
    (call [] f.CoroutineCreate (Native f.Next ∷ []) ≡ Gave (Thread 1 ∷ []))
    × (call [] f.CoroutineCreate (own 0 ∷ []) ≡ Failed (codes "invalid argument #1 to 'create' (function expected, got table)"))
    × (call [] f.CoroutineWrap (Native f.Next ∷ []) ≡ Gave (Wrap 1 ∷ []))
    × (call [] f.CoroutineResume (Thread 1 ∷ n 5 ∷ []) ≡ Moved (Resume 1 (n 5 ∷ [])))
    × (call [] f.CoroutineResume (n 1 ∷ []) ≡ Failed (codes "invalid argument #1 to 'resume' (coroutine expected, got number)"))
    × (call [] f.CoroutineYield (n 1 ∷ n 2 ∷ []) ≡ Moved (Yield (n 1 ∷ n 2 ∷ [])))
    × (call [] f.CoroutineStatus (Thread 7 ∷ []) ≡ Gave (t (codes "dead") ∷ []))
    × (call [] f.CoroutineIsyieldable [] ≡ Gave (no ∷ []))
unfolding lib go_on choose index newindex arith compare callee_of concat_two length_of is_function metamethod as_number read_number read_with_base calculated table_at with_table same get set put border next_entry kind_of is_true name_of text_of as_plain error_text fresh look wait coroutine_of with_coroutine bounds goes_on iteration digits
coroutine_1 = (refl, refl, refl, refl, refl, refl, refl, refl)

pub coroutine_2 :
    (call [] f.CoroutineRunning [] ≡ Gave (Nil ∷ []))
    × (call [] f.CoroutineClose (Thread 1 ∷ []) ≡ Moved (Close 1))
unfolding lib go_on choose index newindex arith compare callee_of concat_two length_of is_function metamethod as_number read_number read_with_base calculated table_at with_table same get set put border next_entry kind_of is_true name_of text_of as_plain error_text fresh look wait coroutine_of with_coroutine bounds goes_on iteration digits
coroutine_2 = (refl, refl)
