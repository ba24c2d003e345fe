-- What comes of a call of a library function, as the meanings know it.
use Rattle.std.specs.Prelude.{◌≡◌, List, [], ◌++◌, map, pos}
use Rattle.std.specs.List.{AllByRecursion}
use Rattle.value_model.specs.Answers as model
use Rattle.value_model.specs.Arguments.{argument_or_nil}
use Rattle.value_model.specs.Parts.{meant, meant_error, IsKnown}
use Rattle.value_model.specs.Store.{Store}
use Rattle.value_model.specs.Tables.{same}
use Rattle.value_model.specs.Values as m
use Rattle.value_model.specs.Values.{Bytes}
use Rattle.value_model.specs.Waits as wait
use Rattle.value_model.specs.declared.builtin.Builtin.{Builtin}
use Rattle.value_model.specs.declared.builtin.Builtin.TheVariants as builtin
use Rattle.value_model.specs.declared.value.Value.{Value}
use Rattle.value_model.specs.declared.waiting.Continue.{Continue}
use Rattle.luau_tables.specs.Worlds.{store_in, MayUseIn}
use Rattle.luau_tables.specs.declared.answer.LibAnswer.{LibAnswer}
use Rattle.luau_tables.specs.declared.answer.LibAnswer.TheVariants.{Values, Print, RunError, Raise, Stop, CallBack}
use Rattle.luau_tables.specs.declared.globals.LibWorld.{LibWorld}

unfoldable pub meant_continue : (texts : List Bytes) → Continue → wait.Continue
meant_continue texts c = record { builtin = c.builtin; arguments = map (meant texts) c.args.items; at = c.at; text = c.text }

-- How a raised value came to be raised: only `error` says more than that it was raised.
abbrev pub raised_by : Builtin → (args : List m.Value) → wait.Origin
raised_by builtin.Error args = wait.ByError (same (argument_or_nil args 1) (m.Number (pos 0)))
raised_by f args = wait.Elsewise

-- The answer that is meant, with the values that it gives and the store behind it
unfoldable pub meant_answer : (texts : List Bytes) → wait.Origin → LibAnswer → (given : List Value) → Store → model.LibAnswer
meant_answer texts origin Values vs s = model.Answers (map (meant texts) vs) s
meant_answer texts origin (Print line) vs s = model.PrintsLine line
meant_answer texts origin (RunError e) vs s = model.ErrsWith (meant_error texts e)
meant_answer texts origin (Raise v) vs s = model.RaisesValue (meant texts v) origin
meant_answer texts origin (Stop stop) vs s = model.HaltsWith stop
meant_answer texts origin (CallBack callee args then) vs s = model.CallsBack (meant texts callee) (map (meant texts) args.items) (wait.Asks (meant_continue texts then))

-- but where values are given, none come, and the store stays
abbrev pub Stays : LibAnswer → (given : List Value) → (before after : Store) → Type 0
Stays Values vs s s' = Unit {0}
Stays answer vs s s' = (vs ≡ []) × (s' ≡ s)

-- the script may use each value in an answer
abbrev pub MayAnswer : LibWorld → LibAnswer → Type 0
MayAnswer w (RunError e) = IsKnown w.names e
MayAnswer w (Raise v) = MayUseIn w v
MayAnswer w (CallBack callee args then) = MayUseIn w callee × AllByRecursion (MayUseIn w) args.items × AllByRecursion (MayUseIn w) then.args.items
MayAnswer w answer = Unit {0}

-- What a call of a library function answers, and the values that it appends, are by the row of the library.
pub record Answered (before after : LibWorld) (results_before results_after : List Value) (answer : LibAnswer) (origin : wait.Origin) (row : model.LibAnswer) : Type 0 where
  pub given : List Value
  pub appended : results_after ≡ results_before ++ given
  pub meant : meant_answer after.names origin answer given (store_in after) ≡ row
  pub stays : Stays answer given (store_in before) (store_in after)
  pub usable : MayAnswer after answer
  pub values : AllByRecursion (MayUseIn after) given
