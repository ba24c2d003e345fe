-- Examples of the texts of run errors, computed.
use Rattle.std.proofs.Common.{◌≡◌, pos, refl}
use Rattle.std.specs.Prelude.{codes}
use Rattle.value_model.specs.Values.{kind_of, is_true}
use Rattle.value_model.specs.Tables.{same, get, set, put, border, next_entry}
use Rattle.value_model.specs.Store.{table_at, with_table}
use Rattle.whole_num.specs.NumberTexts.{read_number, read_with_base}
use Rattle.value_model.specs.Metamethods.{index, newindex, arith, choose, is_function, metamethod, as_number, compare, callee_of, concat_two, length_of}
use Rattle.value_model.specs.Names.{name_of, text_of, as_plain}
use Rattle.value_model.specs.Operators.{calculated}
use Rattle.value_model.specs.Errors.{error_text}
use Rattle.value_model.specs.Library.{lib, go_on}
use Rattle.value_model.specs.Waiting.{wait}
use Rattle.value_model.specs.CoroutineRows.{coroutine_of, with_coroutine}
use Rattle.value_model.specs.Loops.{bounds, goes_on, iteration}
use Rattle.value_model.specs.Fresh.{fresh, look}
use Rattle.std.specs.Fmt.{digits}
use Rattle.value_model.specs.declared.kind.Kind.TheVariants as kind
use Rattle.value_model.specs.declared.operator.ArithOp.TheVariants as op
use Rattle.value_model.specs.declared.error.LoopBound.TheVariants as bound
use Rattle.value_model.specs.declared.error.Wanted.TheVariants as wanted
use Rattle.value_model.specs.Errors.{IndexWithName, IndexWith, CallOf, Arithmetic, Concatenate, CompareLess, CompareLessOrEqual, LengthOf, IterateOver, ReadonlyTable, NilKey, UnknownKey, IndexChain, NewindexChain, ForBound, MissingArgument, InvalidArgument, ArgumentOutOfRange, InvalidDirective, ProtectedMetatable, FixedEnvironment, DeadCoroutine, NotSuspended, CloseRunning, YieldOutside, AssertionFailed, NotStringByTostring, StringTooLarge, TooManyValues, InvalidElement, NoReply}

pub errors_1 :
    (error_text (IndexWithName kind.Nil (codes "b")) ≡ codes "attempt to index nil with 'b'")
    × (error_text (IndexWith kind.Boolean kind.Table) ≡ codes "attempt to index boolean with table")
    × (error_text (CallOf kind.String) ≡ codes "attempt to call a string value")
    × (error_text (Arithmetic op.Idiv kind.Table kind.Nil) ≡ codes "attempt to perform arithmetic (idiv) on table and nil")
    × (error_text (Arithmetic op.Unm kind.Table kind.Table) ≡ codes "attempt to perform arithmetic (unm) on table")
    × (error_text (Concatenate kind.Nil kind.String) ≡ codes "attempt to concatenate nil with string")
    × (error_text (CompareLess kind.Number kind.String) ≡ codes "attempt to compare number < string")
    × (error_text (CompareLessOrEqual kind.Nil kind.Thread) ≡ codes "attempt to compare nil <= thread")
    × (error_text (LengthOf kind.Function) ≡ codes "attempt to get length of a function value")
    × (error_text (IterateOver kind.Number) ≡ codes "attempt to iterate over a number value")
    × (error_text (ReadonlyTable) ≡ codes "attempt to modify a readonly table")
    × (error_text (NilKey) ≡ codes "table index is nil")
    × (error_text (UnknownKey) ≡ codes "invalid key to 'next'")
    × (error_text (IndexChain) ≡ codes "'__index' chain too long")
    × (error_text (NewindexChain) ≡ codes "'__newindex' chain too long")
    × (error_text (ForBound bound.Initial kind.Nil) ≡ codes "invalid 'for' initial value (number expected, got nil)")
    × (error_text (ForBound bound.Limit kind.Table) ≡ codes "invalid 'for' limit value (number expected, got table)")
    × (error_text (ForBound bound.Step kind.Boolean) ≡ codes "invalid 'for' step value (number expected, got boolean)")
    × (error_text (MissingArgument 2 (codes "insert") wanted.AnyValue) ≡ codes "missing argument #2 to 'insert' (value expected)")
    × (error_text (MissingArgument 1 (codes "resume") wanted.Coroutine) ≡ codes "missing argument #1 to 'resume' (coroutine expected)")
    × (error_text (InvalidArgument 1 (codes "pairs") (wanted.OfKind kind.Table) kind.Number) ≡ codes "invalid argument #1 to 'pairs' (table expected, got number)")
    × (error_text (InvalidArgument 3 (codes "get") wanted.PlainValue kind.Table) ≡ codes "invalid argument #3 to 'get' (plain value expected, got table)")
    × (error_text (ArgumentOutOfRange 3 (codes "clamp")) ≡ codes "invalid argument #3 to 'clamp' (out of range)")
    × (error_text (InvalidDirective) ≡ codes "invalid directive in 'format'")
    × (error_text (ProtectedMetatable) ≡ codes "cannot change a protected metatable")
    × (error_text (FixedEnvironment) ≡ codes "cannot change environment of this function")
    × (error_text (DeadCoroutine) ≡ codes "cannot resume dead coroutine")
    × (error_text (NotSuspended) ≡ codes "cannot resume non-suspended coroutine")
    × (error_text (CloseRunning) ≡ codes "cannot close a running coroutine")
    × (error_text (YieldOutside) ≡ codes "attempt to yield from outside a coroutine")
    × (error_text (AssertionFailed) ≡ codes "assertion failed!")
    × (error_text (NotStringByTostring) ≡ codes "'__tostring' must return a string")
    × (error_text (StringTooLarge) ≡ codes "resulting string too large")
    × (error_text (TooManyValues) ≡ codes "too many values")
    × (error_text (InvalidElement kind.Nil (pos 2)) ≡ codes "invalid value (nil) at index 2 in 'concat'")
    × (error_text (NoReply) ≡ codes "no reply from host")
unfolding lib go_on choose index newindex arith compare callee_of concat_two length_of is_function metamethod as_number read_number read_with_base calculated table_at with_table same get set put border next_entry kind_of is_true name_of text_of as_plain error_text fresh look wait coroutine_of with_coroutine bounds goes_on iteration digits
errors_1 = (refl, refl, refl, refl, refl, refl, refl, refl, refl, refl, refl, refl, refl, refl, refl, refl, refl, refl, refl, refl, refl, refl, refl, refl, refl, refl, refl, refl, refl, refl, refl, refl, refl, refl, refl, refl)
