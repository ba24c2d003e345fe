-- What directives make of their arguments, beside the rows of `format`.
use Rattle.std.specs.Prelude.{◌≡◌, ℕ, List, [], ◌∷◌, ◌++◌, map, Option, Some, None, Result, Ok, Err}
use Rattle.value_model.specs.Answers as model
use Rattle.value_model.specs.FormatRows as row
use Rattle.value_model.specs.Parts.{meant}
use Rattle.value_model.specs.Values.{Bytes}
use Rattle.value_model.specs.Waits as wait
use Rattle.value_model.specs.declared.builtin.Builtin.TheVariants.{StringFormat}
use Rattle.value_model.specs.declared.value.Value.{Value}
use Rattle.luau_tables.specs.Worlds.{MayUseIn, store_in}
use Rattle.luau_tables.specs.declared.globals.LibWorld.{LibWorld}
use Rattle.lib_arguments.specs.Checks.{Fails}
use Rattle.lib_arguments.specs.declared.ending.Ending.{Ending}
use Rattle.lib_string.specs.declared.asking.Asking.{Asking}

-- a row that makes a text and goes on with it: the text is appended
pub record Appends (before after : Bytes) (row : (Bytes → model.LibAnswer) → model.LibAnswer) : Type 0 where
  pub bytes : Bytes
  pub appended : after ≡ before ++ bytes
  pub goes_on : (go : Bytes → model.LibAnswer) → row go ≡ go bytes

-- the same, or the row ends
abbrev pub Writes : (texts : List Bytes) → (before after : Bytes) → ((Bytes → model.LibAnswer) → model.LibAnswer) → Result (Unit {0}) Ending → Type 0
Writes texts before after row (Ok done) = Appends before after row
Writes texts before after row (Err e) = (go : Bytes → model.LibAnswer) → Fails texts (row go) e

-- what was written asks for nothing
abbrev pub unasked : Result (Unit {0}) Ending → Result (Option Asking) Ending
unasked (Ok done) = Ok None
unasked (Err e) = Err e

-- the call of `__tostring` that a row ends with, for the argument at a place, with the text so far
abbrev pub asks : LibWorld → (args : List Value) → (at : ℕ) → Bytes → Asking → model.LibAnswer
asks w args at text a =
    model.CallsBack (meant w.names a.handler) (meant w.names a.value ∷ []) (wait.Asks (record { builtin = StringFormat; arguments = map (meant w.names) args; at = at; text = text }))

-- the script may use what is asked
abbrev pub MayAsk : LibWorld → Asking → Type 0
MayAsk w a = MayUseIn w a.handler × MayUseIn w a.value

-- a directive appends the text of its argument, asks for it, or ends the row
abbrev pub Fills : LibWorld → (args : List Value) → (at : ℕ) → (before after : Bytes) → row.Field → row.Form → Result (Option Asking) Ending → Type 0
Fills w args at before after d f (Ok None) = Appends before after (row.directive_text (store_in w) (map (meant w.names) args) at before d f)
Fills w args at before after d f (Ok (Some a)) =
    (after ≡ before) × MayAsk w a × ((go : Bytes → model.LibAnswer) → row.directive_text (store_in w) (map (meant w.names) args) at before d f go ≡ asks w args at before a)
Fills w args at before after d f (Err e) = (go : Bytes → model.LibAnswer) → Fails w.names (row.directive_text (store_in w) (map (meant w.names) args) at before d f go) e

-- so do the pieces of a format, up to its end or up to what is asked
abbrev pub FillsIn : LibWorld → (args : List Value) → (format : Bytes) → (at : ℕ) → (before after : Bytes) → Result (ℕ × Option Asking) Ending → Type 0
FillsIn w args format at before after (Ok (i, None)) = row.formats (store_in w) (map (meant w.names) args) (row.pieces_of format) at before ≡ row.format_done (store_in w) after
FillsIn w args format at before after (Ok (i, Some a)) =
    MayAsk w a × (row.formats (store_in w) (map (meant w.names) args) (row.pieces_of format) at before ≡ asks w args i after a)
FillsIn w args format at before after (Err e) = Fails w.names (row.formats (store_in w) (map (meant w.names) args) (row.pieces_of format) at before) e
