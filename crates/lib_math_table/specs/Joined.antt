-- The text of many elements.
use Rattle.std.specs.Prelude.{◌≡◌, ◌⊎◌, ◌<◌, ℤ, pos, ◌+ℤ◌, Bool, true, false, List, [], ◌∷◌, ◌++◌, Option, Some, None, Result, Ok, Err, length, nat_le, if◌then◌else◌}
use Rattle.value_model.specs.Answers.{LibAnswer, ErrsWith}
use Rattle.value_model.specs.Arguments.{number_or}
use Rattle.value_model.specs.CoreRows.{gives}
use Rattle.value_model.specs.Errors.{InvalidElement}
use Rattle.value_model.specs.Metamethods.{as_text, longest_string}
use Rattle.value_model.specs.Store.{Store, table_at}
use Rattle.value_model.specs.StringRows.{count_between}
use Rattle.value_model.specs.TableRows.{joined, joined_with, joins, end_of, whole_text}
use Rattle.value_model.specs.Values.{Bytes, TableRef, Value, Text, kind_of}
use Rattle.value_model.specs.declared.builtin.Builtin.TheVariants as builtin
use Rattle.lib_arguments.specs.Checks.{Fails}
use Rattle.lib_arguments.specs.declared.ending.Ending.{Ending}

-- the row of `concat` from the separator on
abbrev pub joined_from : Store → TableRef → (separator : Bytes) → (args : List Value) → LibAnswer
joined_from s t sep args =
    number_or builtin.TableConcat 2 args (pos 1) (λ i. number_or builtin.TableConcat 3 args (end_of (table_at s t)) (λ j. joins s (table_at s t) sep i (count_between i j) None))

-- the same of elements in a list, of which the first stands under a number
abbrev pub joins_all : Store → (separator : Bytes) → ℤ → List Value → Option Bytes → LibAnswer
joins_all s sep k [] front = joined s (whole_text front)
joins_all s sep k (v ∷ vs) front =
    elim (as_text v) [ None ↦ ErrsWith (InvalidElement (kind_of v) k) | Some bs ↦ joins_all s sep (k +ℤ pos 1) vs (Some (joined_with sep front bs)) ]

-- ---- what is kept of a text that may be too long for a string

-- all of it, or else more than a string can have
abbrev pub Holds : (kept full : Bytes) → Type 0
Holds kept full = (kept ≡ full) ⊎ ((longest_string < length kept) × (longest_string < length full))

-- bytes come behind it, unless it is too long already
abbrev pub appended : Bytes → Bytes → Bytes
appended text bs = if nat_le (length text) longest_string then text ++ bs else text

-- and a separator does, where an element stands before
abbrev pub parted : (is_first : Bool) → (separator : Bytes) → Bytes → Bytes
parted true sep text = text
parted false sep text = appended text sep

-- the text of a value comes behind it, where it has one
abbrev pub AddsText : Option Bytes → (before after : Bytes) → Bool → Type 0
AddsText None text text' b = b ≡ false
AddsText (Some bs) text text' b = (b ≡ true) × (text' ≡ appended text bs)

-- ---- what comes of elements

-- their texts are joined
pub record Joins (separator : Bytes) (k : ℤ) (vs : List Value) (kept : Bytes) : Type 0 where
  pub full : Bytes
  pub row : (s : Store) → joins_all s separator k vs None ≡ joined s full
  pub holds : Holds kept full

-- or one of them has none
abbrev pub JoinsOrFails : (texts : List Bytes) → (separator : Bytes) → ℤ → List Value → (kept : Bytes) → Result (Unit {0}) Ending → Type 0
JoinsOrFails texts sep k vs kept (Ok done) = Joins sep k vs kept
JoinsOrFails texts sep k vs kept (Err e) = (s : Store) → Fails texts (joins_all s sep k vs None) e

-- a row gives this text, or ends so
abbrev pub GivesText : {V : Type 0} → (texts : List Bytes) → Store → (bytes : V → Bytes) → LibAnswer → Result V Ending → Type 0
GivesText texts s bytes row (Ok text) = row ≡ gives s (Text (bytes text))
GivesText texts s bytes row (Err e) = Fails texts row e
