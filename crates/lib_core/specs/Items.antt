-- What the iterator of `ipairs` gives.
use Rattle.std.specs.Prelude.{ℤ, List, [], ◌∷◌, Result}
use Rattle.value_model.specs.declared.value.Value.{Value}
use Rattle.value_model.specs.declared.value.Value.TheVariants.{Nil, Num}
use Rattle.lib_arguments.specs.Rows.{Gives}
use Rattle.lib_arguments.specs.declared.ending.Ending.{Ending}

-- the place and the item, or nil alone where that is nil
abbrev pub GivesItem : (results_before results_after : List Value) → ℤ → Value → Result (Unit {0}) Ending → Type 0
GivesItem rs rs' k Nil result = Gives rs rs' (Nil ∷ []) result
GivesItem rs rs' k v result = Gives rs rs' (Num k ∷ v ∷ []) result
