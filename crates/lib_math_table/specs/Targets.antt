-- The table that elements are moved into.
use Rattle.value_model.specs.Answers.{LibAnswer}
use Rattle.value_model.specs.Arguments.{table_from}
use Rattle.value_model.specs.Values.{TableRef, Value, Nil}
use Rattle.value_model.specs.declared.builtin.Builtin.TheVariants as builtin

-- the one that is given, or else the one that they come from
abbrev pub targets : TableRef → Value → (TableRef → LibAnswer) → LibAnswer
targets t Nil go = go t
targets t v go = table_from builtin.TableMove 4 v go
