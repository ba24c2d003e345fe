-- The metatable that `setmetatable` is given: nil has to be written, and stands for none.
use Rattle.std.specs.Prelude.{Option, Some, None}
use Rattle.value_model.specs.Answers.{LibAnswer}
use Rattle.value_model.specs.Arguments.{table_from}
use Rattle.value_model.specs.Values.{TableRef, Value, Nil}
use Rattle.value_model.specs.declared.builtin.Builtin.TheVariants.{Setmetatable}

abbrev pub meta_row : Value → (Option TableRef → LibAnswer) → LibAnswer
meta_row Nil go = go None
meta_row v go = table_from Setmetatable 1 v (λ m. go (Some m))
