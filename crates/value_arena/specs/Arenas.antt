-- All objects, by owner.
use Rattle.std.specs.Prelude.{ℕ, ◌+◌, ◌-◌, ◌<◌, List, [], ◌∷◌, ◌++◌, length, Option, None, slice_index_or, slice_set, replicate}
use Rattle.std.specs.List.{sum_by}
use Rattle.value_model.specs.Owners.{wide}
use Rattle.value_model.specs.declared.ids.Owner.{Owner}
use Rattle.value_model.specs.declared.ids.Owner.TheVariants.{Frozen, Script}
use Rattle.value_model.specs.declared.ids.ShortOwner.{ShortOwner}
use Rattle.value_model.specs.declared.ids.ShortOwner.TheVariants as short
use Rattle.value_model.specs.declared.ids.TableId.{TableId}
use Rattle.value_model.specs.declared.ids.ClosureId.{ClosureId}
use Rattle.value_model.specs.declared.ids.CellId.{CellId}
use Rattle.value_model.specs.declared.ids.ThreadId.{ThreadId}
use Rattle.value_model.specs.declared.value.Value.{Value}
use Rattle.value_model.specs.declared.value.Value.TheVariants as value
use Rattle.value_arena.specs.declared.closure.Closure.{Closure}
use Rattle.value_arena.specs.declared.closure.Thread.{Thread}
use Rattle.value_arena.specs.Tables.{TableView, no_table}
use Rattle.value_arena.specs.Objects.{ObjectsView, no_objects, no_closure, no_coroutine, new_coroutine, object_count}

-- the place of an owner's objects among those of all owners
abbrev pub slot : Owner → ℕ
slot Frozen = 0
slot (Script n) = n + 1

-- there are so many owners at most: 64 scripts, and none
abbrev pub owner_count : ℕ
owner_count = 65

abbrev pub IsOwner : Owner → Type 0
IsOwner w = slot w < owner_count

-- the owner as ids hold it
abbrev pub narrow : Owner → ShortOwner
narrow Frozen = short.Frozen
narrow (Script n) = short.Script n

-- an owner that nothing was made for yet has no objects, as if it were there
abbrev pub padded : List ObjectsView → List ObjectsView
padded os = os ++ replicate (owner_count - length os) no_objects

-- all objects, by owner, and the coroutine that runs, none standing for a script's main thread
pub record ArenaView : Type 0 where
  pub owners : List ObjectsView
  pub running : Option ThreadId

abbrev pub no_arena : ArenaView
no_arena = record { owners = padded []; running = None }

abbrev pub objects_of : ArenaView → Owner → ObjectsView
objects_of a w = slice_index_or a.owners (slot w) no_objects

abbrev pub with_objects : ArenaView → Owner → ObjectsView → ArenaView
with_objects a w o = record a { owners = slice_set a.owners (slot w) o }

-- ---- what an id names, and the arena with another object in its place

unfoldable pub table_at : ArenaView → TableId → TableView
table_at a t = slice_index_or (objects_of a (wide t.owner)).tables t.place no_table

unfoldable pub with_table : ArenaView → TableId → TableView → ArenaView
with_table a t v =
    let o = objects_of a (wide t.owner) in
    with_objects a (wide t.owner) (record o { tables = slice_set o.tables t.place v })

unfoldable pub closure_at : ArenaView → ClosureId → Closure
closure_at a f = slice_index_or (objects_of a (wide f.owner)).closures f.place no_closure

unfoldable pub with_closure : ArenaView → ClosureId → Closure → ArenaView
with_closure a f v =
    let o = objects_of a (wide f.owner) in
    with_objects a (wide f.owner) (record o { closures = slice_set o.closures f.place v })

unfoldable pub cell_at : ArenaView → CellId → Value
cell_at a c = slice_index_or (objects_of a (wide c.owner)).cells c.place value.Nil

unfoldable pub with_cell : ArenaView → CellId → Value → ArenaView
with_cell a c v =
    let o = objects_of a (wide c.owner) in
    with_objects a (wide c.owner) (record o { cells = slice_set o.cells c.place v })

unfoldable pub thread_at : ArenaView → ThreadId → Thread
thread_at a t = slice_index_or (objects_of a (wide t.owner)).threads t.place no_coroutine

unfoldable pub with_thread : ArenaView → ThreadId → Thread → ArenaView
with_thread a t v =
    let o = objects_of a (wide t.owner) in
    with_objects a (wide t.owner) (record o { threads = slice_set o.threads t.place v })

-- ---- which ids name something

unfoldable pub HasTable : ArenaView → TableId → Type 0
HasTable a t = t.place < length (objects_of a (wide t.owner)).tables

unfoldable pub HasClosure : ArenaView → ClosureId → Type 0
HasClosure a f = f.place < length (objects_of a (wide f.owner)).closures

unfoldable pub HasCell : ArenaView → CellId → Type 0
HasCell a c = c.place < length (objects_of a (wide c.owner)).cells

unfoldable pub HasThread : ArenaView → ThreadId → Type 0
HasThread a t = t.place < length (objects_of a (wide t.owner)).threads

-- ---- new objects: the arena with one more, and its id

unfoldable pub new_table : ArenaView → Owner → ArenaView
new_table a w = let o = objects_of a w in with_objects a w (record o { tables = o.tables ++ no_table ∷ [] })

unfoldable pub next_table : ArenaView → Owner → TableId
next_table a w = record { owner = narrow w; place = length (objects_of a w).tables }

unfoldable pub new_closure : ArenaView → Owner → Closure → ArenaView
new_closure a w f = let o = objects_of a w in with_objects a w (record o { closures = o.closures ++ f ∷ [] })

unfoldable pub next_closure : ArenaView → Owner → ClosureId
next_closure a w = record { owner = narrow w; place = length (objects_of a w).closures }

unfoldable pub new_cell : ArenaView → Owner → Value → ArenaView
new_cell a w v = let o = objects_of a w in with_objects a w (record o { cells = o.cells ++ v ∷ [] })

unfoldable pub next_cell : ArenaView → Owner → CellId
next_cell a w = record { owner = narrow w; place = length (objects_of a w).cells }

unfoldable pub new_thread : ArenaView → Owner → Value → ArenaView
new_thread a w body =
    let o = objects_of a w in
    with_objects a w (record o { threads = o.threads ++ new_coroutine body ∷ [] })

unfoldable pub next_thread : ArenaView → Owner → ThreadId
next_thread a w = record { owner = narrow w; place = length (objects_of a w).threads }

-- ---- of values

-- a value that is no table, Luau function or coroutine is nobody's
abbrev pub owner_of : Value → Owner
owner_of (value.Table t) = wide t.owner
owner_of (value.Closure f) = wide f.owner
owner_of (value.Wrap t) = wide t.owner
owner_of (value.Thread t) = wide t.owner
owner_of _ = Frozen

-- the number of an object among those of its kind and owner, from 1, and 0 for what is no object
abbrev pub ordinal_of : Value → ℕ
ordinal_of (value.Table t) = t.place + 1
ordinal_of (value.Closure f) = f.place + 1
ordinal_of (value.Wrap t) = t.place + 1
ordinal_of (value.Thread t) = t.place + 1
ordinal_of _ = 0

-- how many objects there are
abbrev pub objects_in : ArenaView → ℕ
objects_in a = sum_by object_count a.owners
