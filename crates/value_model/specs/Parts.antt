-- What a program keeps, as the meanings know it: the number of a text gives way to its bytes, and of an object's number its place is
-- left.
use Rattle.std.specs.Prelude.{ℕ, ◌<◌, List, [], length, slice_index_or}
use Rattle.value_model.specs.declared.error.RunErr.{RunErr}
use Rattle.value_model.specs.declared.error.RunErr.TheVariants as err
use Rattle.value_model.specs.declared.error.Wanted.TheVariants.{PlainValue}
use Rattle.value_model.specs.declared.ids.ShortOwner.{ShortOwner}
use Rattle.value_model.specs.declared.ids.ShortOwner.TheVariants.{Frozen, Script}
use Rattle.value_model.specs.declared.ids.TableId.{TableId}
use Rattle.value_model.specs.declared.value.Value.{Value as KeptValue}
use Rattle.value_model.specs.declared.value.Value.TheVariants as kept
use Rattle.value_model.specs.Values.{Bytes, TableRef, Shared, Own, Value, Nil, Boolean, Number, Text, Table, Closure, Native, Host, Wrap, Thread}
use Rattle.value_model.specs.Errors as error
use Rattle.value_model.specs.Paths.{last_name, name_in_errors}

abbrev pub by_owner : ShortOwner → ℕ → TableRef
by_owner Frozen place = Shared place
by_owner (Script i) place = Own place

abbrev pub table_ref : TableId → TableRef
table_ref t = by_owner t.owner t.place

-- the bytes of a text, by its number
abbrev pub bytes_at : (texts : List Bytes) → ℕ → Bytes
bytes_at texts i = slice_index_or texts i []

-- the value that is meant, by the texts of the interner
unfoldable pub meant : (texts : List Bytes) → KeptValue → Value
meant texts kept.Nil = Nil
meant texts (kept.Bool b) = Boolean b
meant texts (kept.Num z) = Number z
meant texts (kept.Str x) = Text (bytes_at texts x.0)
meant texts (kept.Table t) = Table (table_ref t)
meant texts (kept.Closure f) = Closure f.place
meant texts (kept.Native f) = Native f
meant texts (kept.Host h) = Host h.0
meant texts (kept.Wrap co) = Wrap co.place
meant texts (kept.Thread co) = Thread co.place

-- the texts that the run error shows have numbers
abbrev pub IsKnown : (texts : List Bytes) → RunErr → Type 0
IsKnown texts (err.IndexWithName base key) = key.0 < length texts
IsKnown texts (err.HostArgument n path t) = path.0 < length texts
IsKnown texts e = Unit {0}

-- The run error that is meant. A host function is kept by the number of its whole path.
unfoldable pub meant_error : (texts : List Bytes) → RunErr → error.RunError
meant_error texts (err.IndexWithName base key) = error.IndexWithName base (bytes_at texts key.0)
meant_error texts (err.IndexWith base key) = error.IndexWith base key
meant_error texts (err.CallOf callee) = error.CallOf callee
meant_error texts (err.Arithmetic o t u) = error.Arithmetic o t u
meant_error texts (err.Concatenate t u) = error.Concatenate t u
meant_error texts (err.CompareLess t u) = error.CompareLess t u
meant_error texts (err.CompareLessOrEqual t u) = error.CompareLessOrEqual t u
meant_error texts (err.LengthOf t) = error.LengthOf t
meant_error texts (err.IterateOver t) = error.IterateOver t
meant_error texts err.ReadonlyTable = error.ReadonlyTable
meant_error texts err.NilKey = error.NilKey
meant_error texts err.UnknownKey = error.UnknownKey
meant_error texts err.IndexChain = error.IndexChain
meant_error texts err.NewindexChain = error.NewindexChain
meant_error texts (err.ForBound b t) = error.ForBound b t
meant_error texts (err.MissingArgument n f w) = error.MissingArgument n (name_in_errors f) w
meant_error texts (err.InvalidArgument n f w t) = error.InvalidArgument n (name_in_errors f) w t
meant_error texts (err.HostArgument n path t) = error.InvalidArgument n (last_name (bytes_at texts path.0)) PlainValue t
meant_error texts (err.ArgumentOutOfRange n f) = error.ArgumentOutOfRange n (name_in_errors f)
meant_error texts err.InvalidDirective = error.InvalidDirective
meant_error texts err.ProtectedMetatable = error.ProtectedMetatable
meant_error texts err.FixedEnvironment = error.FixedEnvironment
meant_error texts err.DeadCoroutine = error.DeadCoroutine
meant_error texts err.NotSuspended = error.NotSuspended
meant_error texts err.CloseRunning = error.CloseRunning
meant_error texts err.YieldOutside = error.YieldOutside
meant_error texts err.AssertionFailed = error.AssertionFailed
meant_error texts err.NotStringByTostring = error.NotStringByTostring
meant_error texts err.StringTooLarge = error.StringTooLarge
meant_error texts err.TooManyValues = error.TooManyValues
meant_error texts (err.InvalidElement t i) = error.InvalidElement t i
meant_error texts err.NoReply = error.NoReply
