-- The objects of one owner, kind by kind, each at its place.
use Rattle.std.specs.Prelude.{ℕ, ◌+◌, ◌≤◌, ◌^◌, List, [], None, length}
use Rattle.value_model.specs.declared.ids.ShortOwner.TheVariants.{Frozen}
use Rattle.value_model.specs.declared.kind.CoStatus.TheVariants.{Suspended}
use Rattle.value_model.specs.declared.value.Value.{Value}
use Rattle.value_model.specs.declared.value.Value.TheVariants.{Nil}
use Rattle.value_arena.specs.declared.closure.Closure.{Closure}
use Rattle.value_arena.specs.declared.closure.Thread.{Thread}
use Rattle.value_arena.specs.Tables.{TableView}

pub record ObjectsView : Type 0 where
  pub tables : List TableView
  pub closures : List Closure
  pub cells : List Value
  pub threads : List Thread

abbrev pub no_objects : ObjectsView
no_objects = record { tables = []; closures = []; cells = []; threads = [] }

-- what stands at places where there is nothing
abbrev pub no_closure : Closure
no_closure = record { proto = 0; env = record { owner = Frozen; place = 0 }; cells = [] }

-- a new coroutine
abbrev pub new_coroutine : Value → Thread
new_coroutine body = record { body = body; state = Suspended; resumer = None; failure = None }

abbrev pub no_coroutine : Thread
no_coroutine = new_coroutine Nil

-- there are so many objects of a kind at most, as their places have 32 bits
abbrev pub most_objects : ℕ
most_objects = 2 ^ 32

abbrev pub AreFew : ObjectsView → Type 0
AreFew o = (length o.tables ≤ most_objects) × (length o.closures ≤ most_objects) × (length o.cells ≤ most_objects) × (length o.threads ≤ most_objects)

abbrev pub object_count : ObjectsView → ℕ
object_count o = length o.tables + length o.closures + length o.cells + length o.threads
