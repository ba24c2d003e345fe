-- What objects refer to.
use Rattle.std.specs.Prelude.{◌≡◌, ◌⊎◌, IfSome}
use Rattle.std.specs.List.{AllByRecursion}
use Rattle.value_model.specs.Owners.{wide}
use Rattle.value_model.specs.declared.ids.Owner.{Owner}
use Rattle.value_model.specs.declared.ids.Owner.TheVariants.{Frozen}
use Rattle.value_model.specs.declared.ids.TableId.{TableId}
use Rattle.value_model.specs.declared.ids.ClosureId.{ClosureId}
use Rattle.value_model.specs.declared.ids.CellId.{CellId}
use Rattle.value_model.specs.declared.ids.ThreadId.{ThreadId}
use Rattle.value_model.specs.declared.value.Value.{Value}
use Rattle.value_model.specs.declared.value.Value.TheVariants as value
use Rattle.value_arena.specs.declared.closure.Closure.{Closure}
use Rattle.value_arena.specs.declared.closure.Thread.{Thread}
use Rattle.value_arena.specs.Tables.{TableView}
use Rattle.value_arena.specs.Arenas.{ArenaView, HasTable, HasClosure, HasCell, HasThread, table_at, closure_at, cell_at, thread_at}

-- objects of the first owner may refer to those of the second: their own and nobody's
abbrev pub MaySee : Owner → Owner → Type 0
MaySee w u = (u ≡ w) ⊎ (u ≡ Frozen)

-- a value that objects of the owner may hold: its object is there, and is the owner's or nobody's
abbrev pub MayHold : ArenaView → Owner → Value → Type 0
MayHold a w (value.Table t) = MaySee w (wide t.owner) × HasTable a t
MayHold a w (value.Closure f) = MaySee w (wide f.owner) × HasClosure a f
MayHold a w (value.Wrap t) = MaySee w (wide t.owner) × HasThread a t
MayHold a w (value.Thread t) = MaySee w (wide t.owner) × HasThread a t
MayHold a w _ = Unit {0}

-- ---- what an object of the owner may be

abbrev pub MayBeTable : ArenaView → Owner → TableView → Type 0
MayBeTable a w t =
    AllByRecursion (λ e. MayHold a w e.0 × MayHold a w e.1) t.entries
    × IfSome t.meta (λ m. MayHold a w (value.Table m))

abbrev pub MayBeClosure : ArenaView → Owner → Closure → Type 0
MayBeClosure a w f =
    MayHold a w (value.Table f.env)
    × AllByRecursion (λ c. MaySee w (wide c.owner) × HasCell a c) f.cells

abbrev pub MayBeThread : ArenaView → Owner → Thread → Type 0
MayBeThread a w t =
    MayHold a w t.body
    × IfSome t.resumer (λ r. MayHold a w (value.Thread r))
    × IfSome t.failure (λ v. MayHold a w v)

-- each object refers only to objects that are there, of its owner or of nobody
pub record IsOwned (a : ArenaView) : Type 0 where
  pub tables : (t : TableId) → MayBeTable a (wide t.owner) (table_at a t)
  pub closures : (f : ClosureId) → HasClosure a f → MayBeClosure a (wide f.owner) (closure_at a f)
  pub cells : (c : CellId) → MayHold a (wide c.owner) (cell_at a c)
  pub threads : (t : ThreadId) → MayBeThread a (wide t.owner) (thread_at a t)
