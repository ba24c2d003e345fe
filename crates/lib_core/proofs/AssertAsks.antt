-- `assert` asks for no call.
use Rattle.std.proofs.Common.{Bool, true, false, List, Option, Some, None, slice_get}
use Rattle.value_model.specs.Answers.{Answers}
use Rattle.value_model.specs.Arguments.{wanted_argument}
use Rattle.value_model.specs.CoreRows.{failed_assertion, assert_row}
use Rattle.value_model.specs.Store.{Store}
use Rattle.value_model.specs.Values.{Value, is_true}
use Rattle.value_model.specs.declared.builtin.Builtin.TheVariants as builtin
use Rattle.value_model.specs.declared.error.Wanted.TheVariants.{AnyValue}
use Rattle.lib_arguments.specs.AtOnce.{NoCall}

failed : (o : Option Value) → NoCall (failed_assertion o)
failed None = tt
failed (Some v) = tt

asserts : (b : Bool) (args : List Value) (s : Store) → NoCall (elim b [ true ↦ Answers args s | false ↦ failed_assertion (slice_get args 1) ])
asserts true args s = tt
asserts false args s = failed (slice_get args 1)

wanted : (o : Option Value) (args : List Value) (s : Store) →
    NoCall (wanted_argument builtin.Assert 0 AnyValue o (λ v. elim (is_true v) [ true ↦ Answers args s | false ↦ failed_assertion (slice_get args 1) ]))
wanted None args s = tt
wanted (Some v) args s = asserts (is_true v) args s

pub assert_asks : (args : List Value) (s : Store) → NoCall (assert_row args s)
assert_asks args s = wanted (slice_get args 0) args s
