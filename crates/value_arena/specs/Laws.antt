-- What each change of the arena does, and what it leaves as it was.
use Rattle.std.specs.Prelude.{◌≡◌, ◌≢◌, ◌<◌, length}
use Rattle.value_model.specs.Owners.{wide}
use Rattle.value_model.specs.Pairs.{written}
use Rattle.value_model.specs.declared.ids.Owner.{Owner}
use Rattle.value_model.specs.declared.ids.TableId.{TableId}
use Rattle.value_model.specs.declared.ids.ClosureId.{ClosureId}
use Rattle.value_model.specs.declared.ids.CellId.{CellId}
use Rattle.value_model.specs.declared.ids.ThreadId.{ThreadId}
use Rattle.value_model.specs.declared.value.Value.{Value}
use Rattle.value_model.specs.declared.value.Value.TheVariants.{Nil}
use Rattle.value_arena.specs.declared.closure.Closure.{Closure}
use Rattle.value_arena.specs.declared.closure.Thread.{Thread}
use Rattle.value_arena.specs.Tables.{TableView, same, is_nil, no_table}
use Rattle.value_arena.specs.Objects.{new_coroutine}
use Rattle.value_arena.specs.Arenas.{ArenaView, HasTable, HasClosure, HasCell, HasThread, objects_of, slot, table_at, with_table, closure_at, with_closure, cell_at, with_cell, thread_at, with_thread, new_table, next_table, new_closure, next_closure, new_cell, next_cell, new_thread, next_thread}
use Rattle.value_arena.specs.Growing.{Grows}
use Rattle.value_arena.specs.Owning.{MayHold, MayBeTable, MayBeClosure, MayBeThread, IsOwned}

-- ---- what stays

abbrev pub TablesStay : (before after : ArenaView) → Type 0
TablesStay a b = (t : TableId) → table_at b t ≡ table_at a t

abbrev pub ClosuresStay : (before after : ArenaView) → Type 0
ClosuresStay a b = (f : ClosureId) → closure_at b f ≡ closure_at a f

abbrev pub CellsStay : (before after : ArenaView) → Type 0
CellsStay a b = (c : CellId) → cell_at b c ≡ cell_at a c

abbrev pub ThreadsStay : (before after : ArenaView) → Type 0
ThreadsStay a b = (t : ThreadId) → thread_at b t ≡ thread_at a t

-- the objects of all owners but one, and which coroutine runs; and each list is as long as it was, at least
pub record RestStays (w : Owner) (before after : ArenaView) : Type 0 where
  pub owners : (u : Owner) → u ≢ w → objects_of after u ≡ objects_of before u
  pub running : after.running ≡ before.running
  pub grows : Grows before after

-- ---- an object is written

-- It reads as it was written, and all other objects stay. Objects refer only to objects that are there, of their owner or of
-- nobody, where what is written does.
pub record TableWritten (a : ArenaView) (t : TableId) (v : TableView) : Type 0 where
  pub reads : HasTable a t → table_at (with_table a t v) t ≡ v
  pub tables : (u : TableId) → u ≢ t → table_at (with_table a t v) u ≡ table_at a u
  pub closures : ClosuresStay a (with_table a t v)
  pub cells : CellsStay a (with_table a t v)
  pub threads : ThreadsStay a (with_table a t v)
  pub rest : RestStays (wide t.owner) a (with_table a t v)
  pub owned : IsOwned a → MayBeTable a (wide t.owner) v → IsOwned (with_table a t v)

pub record ClosureWritten (a : ArenaView) (f : ClosureId) (v : Closure) : Type 0 where
  pub reads : HasClosure a f → closure_at (with_closure a f v) f ≡ v
  pub tables : TablesStay a (with_closure a f v)
  pub closures : (u : ClosureId) → u ≢ f → closure_at (with_closure a f v) u ≡ closure_at a u
  pub cells : CellsStay a (with_closure a f v)
  pub threads : ThreadsStay a (with_closure a f v)
  pub rest : RestStays (wide f.owner) a (with_closure a f v)
  pub owned : IsOwned a → MayBeClosure a (wide f.owner) v → IsOwned (with_closure a f v)

pub record CellWritten (a : ArenaView) (c : CellId) (v : Value) : Type 0 where
  pub reads : HasCell a c → cell_at (with_cell a c v) c ≡ v
  pub tables : TablesStay a (with_cell a c v)
  pub closures : ClosuresStay a (with_cell a c v)
  pub cells : (u : CellId) → u ≢ c → cell_at (with_cell a c v) u ≡ cell_at a u
  pub threads : ThreadsStay a (with_cell a c v)
  pub rest : RestStays (wide c.owner) a (with_cell a c v)
  pub owned : IsOwned a → MayHold a (wide c.owner) v → IsOwned (with_cell a c v)

pub record ThreadWritten (a : ArenaView) (t : ThreadId) (v : Thread) : Type 0 where
  pub reads : HasThread a t → thread_at (with_thread a t v) t ≡ v
  pub tables : TablesStay a (with_thread a t v)
  pub closures : ClosuresStay a (with_thread a t v)
  pub cells : CellsStay a (with_thread a t v)
  pub threads : (u : ThreadId) → u ≢ t → thread_at (with_thread a t v) u ≡ thread_at a u
  pub rest : RestStays (wide t.owner) a (with_thread a t v)
  pub owned : IsOwned a → MayBeThread a (wide t.owner) v → IsOwned (with_thread a t v)

-- ---- an object is made

-- Its id named nothing, it is there and new, and all objects that were there stay. Objects refer only to objects that are there,
-- of their owner or of nobody, where the new one does.
pub record TableMade (a : ArenaView) (w : Owner) : Type 0 where
  pub fresh : HasTable a (next_table a w) → ⊥
  pub there : slot w < length a.owners → HasTable (new_table a w) (next_table a w)
  pub reads : HasTable (new_table a w) (next_table a w) → table_at (new_table a w) (next_table a w) ≡ no_table
  pub tables : (u : TableId) → HasTable a u → table_at (new_table a w) u ≡ table_at a u
  pub closures : ClosuresStay a (new_table a w)
  pub cells : CellsStay a (new_table a w)
  pub threads : ThreadsStay a (new_table a w)
  pub rest : RestStays w a (new_table a w)
  pub owned : IsOwned a → IsOwned (new_table a w)

pub record ClosureMade (a : ArenaView) (w : Owner) (f : Closure) : Type 0 where
  pub fresh : HasClosure a (next_closure a w) → ⊥
  pub there : slot w < length a.owners → HasClosure (new_closure a w f) (next_closure a w)
  pub reads : HasClosure (new_closure a w f) (next_closure a w) → closure_at (new_closure a w f) (next_closure a w) ≡ f
  pub tables : TablesStay a (new_closure a w f)
  pub closures : (u : ClosureId) → HasClosure a u → closure_at (new_closure a w f) u ≡ closure_at a u
  pub cells : CellsStay a (new_closure a w f)
  pub threads : ThreadsStay a (new_closure a w f)
  pub rest : RestStays w a (new_closure a w f)
  pub owned : IsOwned a → MayBeClosure a w f → IsOwned (new_closure a w f)

pub record CellMade (a : ArenaView) (w : Owner) (v : Value) : Type 0 where
  pub fresh : HasCell a (next_cell a w) → ⊥
  pub there : slot w < length a.owners → HasCell (new_cell a w v) (next_cell a w)
  pub reads : HasCell (new_cell a w v) (next_cell a w) → cell_at (new_cell a w v) (next_cell a w) ≡ v
  pub tables : TablesStay a (new_cell a w v)
  pub closures : ClosuresStay a (new_cell a w v)
  pub cells : (u : CellId) → HasCell a u → cell_at (new_cell a w v) u ≡ cell_at a u
  pub threads : ThreadsStay a (new_cell a w v)
  pub rest : RestStays w a (new_cell a w v)
  pub owned : IsOwned a → MayHold a w v → IsOwned (new_cell a w v)

pub record ThreadMade (a : ArenaView) (w : Owner) (body : Value) : Type 0 where
  pub fresh : HasThread a (next_thread a w) → ⊥
  pub there : slot w < length a.owners → HasThread (new_thread a w body) (next_thread a w)
  pub reads : HasThread (new_thread a w body) (next_thread a w) → thread_at (new_thread a w body) (next_thread a w) ≡ new_coroutine body
  pub tables : TablesStay a (new_thread a w body)
  pub closures : ClosuresStay a (new_thread a w body)
  pub cells : CellsStay a (new_thread a w body)
  pub threads : (u : ThreadId) → HasThread a u → thread_at (new_thread a w body) u ≡ thread_at a u
  pub rest : RestStays w a (new_thread a w body)
  pub owned : IsOwned a → MayHold a w body → IsOwned (new_thread a w body)

-- ---- which objects there are, and what they refer to

-- what is there stays there
pub record IdsStay (before after : ArenaView) : Type 0 where
  pub tables : (t : TableId) → HasTable before t → HasTable after t
  pub closures : (f : ClosureId) → HasClosure before f → HasClosure after f
  pub cells : (c : CellId) → HasCell before c → HasCell after c
  pub threads : (t : ThreadId) → HasThread before t → HasThread after t
  pub values : (w : Owner) (v : Value) → MayHold before w v → MayHold after w v

-- a table with the value under a key
abbrev pub with_entry : TableView → Value → Value → TableView
with_entry t key v = record t { entries = written same is_nil Nil t.entries key v }
