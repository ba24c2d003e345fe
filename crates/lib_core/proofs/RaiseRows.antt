-- What the rows of `assert` and `error` answer.
use Rattle.std.proofs.Common.{◌≡◌, Bool, true, false, List, map, slice_get, Some, None, Result, sym, ◌∙◌, ap, pos}
use Rattle.std.specs.List.{AllByRecursion}
use Rattle.value_model.specs.Answers as answer
use Rattle.value_model.specs.Arguments.{argument_or_nil}
use Rattle.value_model.specs.CoreRows as core
use Rattle.value_model.specs.Parts.{meant, meant_error}
use Rattle.value_model.specs.Tables.{same}
use Rattle.value_model.specs.Values as m
use Rattle.value_model.specs.Waits as wait
use Rattle.value_model.specs.declared.error.RunErr.TheVariants as err
use Rattle.value_model.specs.declared.value.Value.{Value}
use Rattle.luau_tables.specs.Answers.{Answered}
use Rattle.luau_tables.specs.Worlds.{MayUseIn, store_in}
use Rattle.luau_tables.specs.declared.answer.LibAnswer.TheVariants.{Raise}
use Rattle.luau_tables.specs.declared.globals.LibWorld.{LibWorld}
use Rattle.lib_arguments.specs.Checks.{Fails}
use Rattle.lib_arguments.specs.Rows.{Runs, Gives}
use Rattle.lib_arguments.specs.declared.ending.Ending.{Ending}
use Rattle.lib_arguments.specs.declared.ending.Ending.TheVariants.{RunError}
use Rattle.lib_arguments.proofs.Looks.{meant_at, absent_at}
use Rattle.lib_arguments.proofs.RowsRun.{gives_runs, raise_answers}

abbrev pub asserted : (args : List m.Value) → LibWorld → Bool → answer.LibAnswer
asserted args w b = elim b [ true ↦ answer.Answers args (store_in w) | false ↦ core.failed_assertion (slice_get args 1) ]

module _ (w : LibWorld) (args : List Value) where
  pub assert_gives : (rs rs' : List Value) (result : Result (Unit {0}) Ending) (b : Bool) → b ≡ true → AllByRecursion (MayUseIn w) args → Gives rs rs' args result → Runs w w rs rs' result (asserted (map (meant w.names) args) w b)
  assert_gives rs rs' result b e used given = gives_runs w w rs rs' args result _ given used (ap (λ b. asserted (map (meant w.names) args) w b) e)

  pub assert_raises : (b : Bool) (v : Value) → b ≡ false → slice_get args 1 ≡ Some v → asserted (map (meant w.names) args) w b ≡ answer.RaisesValue (meant w.names v) wait.Elsewise
  assert_raises b v e at = ap (λ b. asserted (map (meant w.names) args) w b) e ∙ ap (λ o. core.failed_assertion o) (meant_at w.names args 1 v at)

  pub assert_fails : (b : Bool) → b ≡ false → slice_get args 1 ≡ None → Fails w.names (asserted (map (meant w.names) args) w b) (RunError err.AssertionFailed)
  unfolding meant_error
  assert_fails b e at = (ap (λ b. asserted (map (meant w.names) args) w b) e ∙ ap (λ o. core.failed_assertion o) (absent_at w.names args 1 at), tt)

  pub error_raises : (rs : List Value) (v : Value) → MayUseIn w v → meant w.names v ≡ argument_or_nil (map (meant w.names) args) 0 →
      Answered w w rs rs (Raise v) (wait.ByError (same (argument_or_nil (map (meant w.names) args) 1) (m.Number (pos 0)))) (core.error_row (map (meant w.names) args) (store_in w))
  error_raises rs v used e = raise_answers w rs v _ _ used (ap (λ v. answer.RaisesValue v (wait.ByError (same (argument_or_nil (map (meant w.names) args) 1) (m.Number (pos 0))))) (sym e))
