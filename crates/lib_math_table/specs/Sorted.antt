-- What comes of elements that are to be sorted.
use Rattle.std.specs.Prelude.{◌≡◌, List, [], ◌∷◌, None, Result, Ok, Err, map}
use Rattle.value_model.specs.Parts.{meant}
use Rattle.value_model.specs.Store.{Store}
use Rattle.value_model.specs.TableRows.{sort_items, sorted, unordered}
use Rattle.value_model.specs.Values as model
use Rattle.value_model.specs.Values.{Bytes, TableRef}
use Rattle.value_model.specs.declared.value.Value.{Value}
use Rattle.value_model.specs.declared.value.Value.TheVariants.{Num, Str}
use Rattle.lib_arguments.specs.Checks.{Fails}
use Rattle.lib_arguments.specs.declared.ending.Ending.{Ending}

abbrev pub BeginsWithNumber : List Value → Type 0
BeginsWithNumber (Num z ∷ vs) = Unit {0}
BeginsWithNumber vs = ⊥

abbrev pub BeginsWithText : List Value → Type 0
BeginsWithText (Str x ∷ vs) = Unit {0}
BeginsWithText vs = ⊥

-- each can be compared with the first, which may be itself
abbrev pub AreOrdered : List model.Value → Type 0
AreOrdered [] = Unit {0}
AreOrdered (v ∷ vs) = unordered v (v ∷ vs) ≡ None

-- Elements are ordered by kind, or the row ends so.
abbrev pub OrFails : {A : Type 0} → (texts : List Bytes) → (elements : List Value) → (A → Type 0) → Result A Ending → Type 0
OrFails texts vs P (Ok a) = P a
OrFails texts vs P (Err e) = (s : Store) (t : TableRef) → Fails texts (sort_items s t (map (meant texts) vs)) e

-- these are the elements in order
pub record AreSorted (texts : List Bytes) (before after : List Value) : Type 0 where
  pub ordered : AreOrdered (map (meant texts) before)
  pub sorted : map (meant texts) after ≡ sorted (map (meant texts) before)
