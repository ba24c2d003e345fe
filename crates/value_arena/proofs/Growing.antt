-- Arenas only grow: what is there stays there, and a new object takes the place of none.
use Rattle.std.proofs.Common.{◌≡◌, ◌≢◌, ◌<◌, [], ◌∷◌, ◌++◌, length, get_or, set, refl, sym, ◌∙◌, ap, subst, arith, length-append, inl, inr}
use Rattle.std.proofs.lemmas.Bool.{cases_eq}
use Rattle.std.proofs.lemmas.List.{get_or_append_left, get_or_push, length-set}
use Rattle.value_model.specs.Owners.{wide}
use Rattle.value_model.specs.declared.ids.Owner.{Owner}
use Rattle.value_model.specs.declared.ids.TableId.{TableId}
use Rattle.value_model.specs.declared.ids.ClosureId.{ClosureId}
use Rattle.value_model.specs.declared.ids.CellId.{CellId}
use Rattle.value_model.specs.declared.ids.ThreadId.{ThreadId}
use Rattle.value_model.specs.declared.value.Value.{Value}
use Rattle.value_model.specs.declared.value.Value.TheVariants.{Nil}
use Rattle.value_arena.specs.declared.closure.Closure.{Closure}
use Rattle.value_arena.specs.declared.closure.Thread.{Thread}
use Rattle.value_arena.specs.Tables.{TableView, no_table}
use Rattle.value_arena.specs.Objects.{ObjectsView, no_closure, no_coroutine, new_coroutine}
use Rattle.value_arena.specs.Arenas.{ArenaView, HasTable, HasClosure, HasCell, HasThread, objects_of, with_objects, slot, table_at, with_table, closure_at, with_closure, cell_at, with_cell, thread_at, with_thread, new_table, next_table, new_closure, next_closure, new_cell, next_cell, new_thread, next_thread}
use Rattle.value_arena.specs.Growing.{Grows}
use Rattle.value_arena.proofs.Laws.{one_owner, wide_narrow, is_in, objects_now, objects_other, part_grows, part_kept}

pub grows_self : (a : ArenaView) → Grows a a
grows_self a = record { tables = λ w. omega arith; closures = λ w. omega arith; cells = λ w. omega arith; threads = λ w. omega arith }

pub grows_on : (a b c : ArenaView) → Grows a b → Grows b c → Grows a c
grows_on a b c g h =
    record {
      tables = λ w. omega (arith, g.tables w, h.tables w);
      closures = λ w. omega (arith, g.closures w, h.closures w);
      cells = λ w. omega (arith, g.cells w, h.cells w);
      threads = λ w. omega (arith, g.threads w, h.threads w);
    }

pub table_stays : (a b : ArenaView) (t : TableId) → Grows a b → HasTable a t → HasTable b t
unfolding HasTable
table_stays a b t g h = omega (arith, g.tables (wide t.owner), h)

pub closure_stays : (a b : ArenaView) (t : ClosureId) → Grows a b → HasClosure a t → HasClosure b t
unfolding HasClosure
closure_stays a b t g h = omega (arith, g.closures (wide t.owner), h)

pub cell_stays : (a b : ArenaView) (t : CellId) → Grows a b → HasCell a t → HasCell b t
unfolding HasCell
cell_stays a b t g h = omega (arith, g.cells (wide t.owner), h)

pub thread_stays : (a b : ArenaView) (t : ThreadId) → Grows a b → HasThread a t → HasThread b t
unfolding HasThread
thread_stays a b t g h = omega (arith, g.threads (wide t.owner), h)

pub with_table_grows : (a : ArenaView) (t : TableId) (v : TableView) → Grows a (with_table a t v)
unfolding with_table
with_table_grows a t v =
    record {
      tables = part_grows (λ o. length o.tables) (λ o. record o { tables = set o.tables t.place v }) (λ o. omega (arith, length-set o.tables t.place v)) a (wide t.owner);
      closures = part_grows (λ o. length o.closures) (λ o. record o { tables = set o.tables t.place v }) (λ o. omega arith) a (wide t.owner);
      cells = part_grows (λ o. length o.cells) (λ o. record o { tables = set o.tables t.place v }) (λ o. omega arith) a (wide t.owner);
      threads = part_grows (λ o. length o.threads) (λ o. record o { tables = set o.tables t.place v }) (λ o. omega arith) a (wide t.owner);
    }

pub with_closure_grows : (a : ArenaView) (t : ClosureId) (v : Closure) → Grows a (with_closure a t v)
unfolding with_closure
with_closure_grows a t v =
    record {
      tables = part_grows (λ o. length o.tables) (λ o. record o { closures = set o.closures t.place v }) (λ o. omega arith) a (wide t.owner);
      closures = part_grows (λ o. length o.closures) (λ o. record o { closures = set o.closures t.place v }) (λ o. omega (arith, length-set o.closures t.place v)) a (wide t.owner);
      cells = part_grows (λ o. length o.cells) (λ o. record o { closures = set o.closures t.place v }) (λ o. omega arith) a (wide t.owner);
      threads = part_grows (λ o. length o.threads) (λ o. record o { closures = set o.closures t.place v }) (λ o. omega arith) a (wide t.owner);
    }

pub with_cell_grows : (a : ArenaView) (t : CellId) (v : Value) → Grows a (with_cell a t v)
unfolding with_cell
with_cell_grows a t v =
    record {
      tables = part_grows (λ o. length o.tables) (λ o. record o { cells = set o.cells t.place v }) (λ o. omega arith) a (wide t.owner);
      closures = part_grows (λ o. length o.closures) (λ o. record o { cells = set o.cells t.place v }) (λ o. omega arith) a (wide t.owner);
      cells = part_grows (λ o. length o.cells) (λ o. record o { cells = set o.cells t.place v }) (λ o. omega (arith, length-set o.cells t.place v)) a (wide t.owner);
      threads = part_grows (λ o. length o.threads) (λ o. record o { cells = set o.cells t.place v }) (λ o. omega arith) a (wide t.owner);
    }

pub with_thread_grows : (a : ArenaView) (t : ThreadId) (v : Thread) → Grows a (with_thread a t v)
unfolding with_thread
with_thread_grows a t v =
    record {
      tables = part_grows (λ o. length o.tables) (λ o. record o { threads = set o.threads t.place v }) (λ o. omega arith) a (wide t.owner);
      closures = part_grows (λ o. length o.closures) (λ o. record o { threads = set o.threads t.place v }) (λ o. omega arith) a (wide t.owner);
      cells = part_grows (λ o. length o.cells) (λ o. record o { threads = set o.threads t.place v }) (λ o. omega arith) a (wide t.owner);
      threads = part_grows (λ o. length o.threads) (λ o. record o { threads = set o.threads t.place v }) (λ o. omega (arith, length-set o.threads t.place v)) a (wide t.owner);
    }

pub new_table_grows : (a : ArenaView) (w : Owner) → Grows a (new_table a w)
unfolding new_table
new_table_grows a w =
    record {
      tables = part_grows (λ o. length o.tables) (λ o. record o { tables = o.tables ++ no_table ∷ [] }) (λ o. omega (arith, length-append o.tables (no_table ∷ []))) a w;
      closures = part_grows (λ o. length o.closures) (λ o. record o { tables = o.tables ++ no_table ∷ [] }) (λ o. omega arith) a w;
      cells = part_grows (λ o. length o.cells) (λ o. record o { tables = o.tables ++ no_table ∷ [] }) (λ o. omega arith) a w;
      threads = part_grows (λ o. length o.threads) (λ o. record o { tables = o.tables ++ no_table ∷ [] }) (λ o. omega arith) a w;
    }

pub new_closure_grows : (a : ArenaView) (w : Owner) (f : Closure) → Grows a (new_closure a w f)
unfolding new_closure
new_closure_grows a w f =
    record {
      tables = part_grows (λ o. length o.tables) (λ o. record o { closures = o.closures ++ f ∷ [] }) (λ o. omega arith) a w;
      closures = part_grows (λ o. length o.closures) (λ o. record o { closures = o.closures ++ f ∷ [] }) (λ o. omega (arith, length-append o.closures (f ∷ []))) a w;
      cells = part_grows (λ o. length o.cells) (λ o. record o { closures = o.closures ++ f ∷ [] }) (λ o. omega arith) a w;
      threads = part_grows (λ o. length o.threads) (λ o. record o { closures = o.closures ++ f ∷ [] }) (λ o. omega arith) a w;
    }

pub new_cell_grows : (a : ArenaView) (w : Owner) (v : Value) → Grows a (new_cell a w v)
unfolding new_cell
new_cell_grows a w v =
    record {
      tables = part_grows (λ o. length o.tables) (λ o. record o { cells = o.cells ++ v ∷ [] }) (λ o. omega arith) a w;
      closures = part_grows (λ o. length o.closures) (λ o. record o { cells = o.cells ++ v ∷ [] }) (λ o. omega arith) a w;
      cells = part_grows (λ o. length o.cells) (λ o. record o { cells = o.cells ++ v ∷ [] }) (λ o. omega (arith, length-append o.cells (v ∷ []))) a w;
      threads = part_grows (λ o. length o.threads) (λ o. record o { cells = o.cells ++ v ∷ [] }) (λ o. omega arith) a w;
    }

pub new_thread_grows : (a : ArenaView) (w : Owner) (body : Value) → Grows a (new_thread a w body)
unfolding new_thread
new_thread_grows a w body =
    record {
      tables = part_grows (λ o. length o.tables) (λ o. record o { threads = o.threads ++ new_coroutine body ∷ [] }) (λ o. omega arith) a w;
      closures = part_grows (λ o. length o.closures) (λ o. record o { threads = o.threads ++ new_coroutine body ∷ [] }) (λ o. omega arith) a w;
      cells = part_grows (λ o. length o.cells) (λ o. record o { threads = o.threads ++ new_coroutine body ∷ [] }) (λ o. omega arith) a w;
      threads = part_grows (λ o. length o.threads) (λ o. record o { threads = o.threads ++ new_coroutine body ∷ [] }) (λ o. omega (arith, length-append o.threads (new_coroutine body ∷ []))) a w;
    }

-- ---- new objects

-- no id that names something is the next one
pub table_fresh : (a : ArenaView) (w : Owner) → HasTable a (next_table a w) → ⊥
unfolding HasTable next_table
table_fresh a w h = absurd (omega (arith, subst (λ u. length (objects_of a w).tables < length (objects_of a u).tables) (wide_narrow w) h))

-- the new object
pub new_table_at : (a : ArenaView) (w : Owner) → HasTable (new_table a w) (next_table a w) → table_at (new_table a w) (next_table a w) ≡ no_table
unfolding HasTable next_table new_table table_at
new_table_at a w h =
    let o = objects_of a w in
    let o' : ObjectsView = record o { tables = o.tables ++ no_table ∷ [] } in
    let there = is_in (λ o. length o.tables) refl (new_table a w) w (length o.tables) (subst (λ u. length o.tables < length (objects_of (new_table a w) u).tables) (wide_narrow w) h) in
    let in_old : slot w < length a.owners = subst (λ n. slot w < n) (length-set a.owners (slot w) o') there in
    ap (λ u. get_or (objects_of (with_objects a w o') u).tables (length o.tables) no_table) (wide_narrow w)
    ∙ ap (λ x. get_or x.tables (length o.tables) no_table) (objects_now a w o' in_old)
    ∙ get_or_push o.tables (no_table) no_table (length o.tables) refl

-- those that were there are as before
pub table_before_new : (a : ArenaView) (w : Owner) (t : TableId) → HasTable a t → table_at (new_table a w) t ≡ table_at a t
unfolding HasTable new_table table_at
table_before_new a w t h =
    let o = objects_of a w in
    let o' : ObjectsView = record o { tables = o.tables ++ no_table ∷ [] } in
    elim (cases_eq (slot (wide t.owner)) (slot w)) [
      | inr other ↦ ap (λ x. get_or x.tables t.place no_table) (objects_other a w (wide t.owner) o' (λ e. other (ap slot e)))
      | inl same ↦
          let is = one_owner (wide t.owner) w same in
          let in_old : slot w < length a.owners = subst (λ n. n < length a.owners) same (is_in (λ o. length o.tables) refl a (wide t.owner) t.place h) in
          let within : t.place < length o.tables = subst (λ u. t.place < length (objects_of a u).tables) is h in
          ap (λ u. get_or (objects_of (with_objects a w o') u).tables t.place no_table) is
          ∙ ap (λ x. get_or x.tables t.place no_table) (objects_now a w o' in_old)
          ∙ get_or_append_left o.tables (no_table ∷ []) no_table t.place within
          ∙ sym (ap (λ u. get_or (objects_of a u).tables t.place no_table) is)
    ]

pub closure_beside_new_table : (a : ArenaView) (w : Owner) (t : ClosureId) → closure_at (new_table a w) t ≡ closure_at a t
unfolding new_table closure_at
closure_beside_new_table a w t = part_kept (λ o. get_or o.closures t.place no_closure) (λ o. record o { tables = o.tables ++ no_table ∷ [] }) (λ o. refl) a w (wide t.owner)

pub cell_beside_new_table : (a : ArenaView) (w : Owner) (t : CellId) → cell_at (new_table a w) t ≡ cell_at a t
unfolding new_table cell_at
cell_beside_new_table a w t = part_kept (λ o. get_or o.cells t.place Nil) (λ o. record o { tables = o.tables ++ no_table ∷ [] }) (λ o. refl) a w (wide t.owner)

pub thread_beside_new_table : (a : ArenaView) (w : Owner) (t : ThreadId) → thread_at (new_table a w) t ≡ thread_at a t
unfolding new_table thread_at
thread_beside_new_table a w t = part_kept (λ o. get_or o.threads t.place no_coroutine) (λ o. record o { tables = o.tables ++ no_table ∷ [] }) (λ o. refl) a w (wide t.owner)

pub others_beside_new_table : (a : ArenaView) (w : Owner) (u : Owner) → u ≢ w → objects_of (new_table a w) u ≡ objects_of a u
unfolding new_table
others_beside_new_table a w u apart = let o = objects_of a w in objects_other a w u (record o { tables = o.tables ++ no_table ∷ [] }) apart

-- no id that names something is the next one
pub closure_fresh : (a : ArenaView) (w : Owner) → HasClosure a (next_closure a w) → ⊥
unfolding HasClosure next_closure
closure_fresh a w h = absurd (omega (arith, subst (λ u. length (objects_of a w).closures < length (objects_of a u).closures) (wide_narrow w) h))

-- the new object
pub new_closure_at : (a : ArenaView) (w : Owner) (f : Closure) → HasClosure (new_closure a w f) (next_closure a w) → closure_at (new_closure a w f) (next_closure a w) ≡ f
unfolding HasClosure next_closure new_closure closure_at
new_closure_at a w f h =
    let o = objects_of a w in
    let o' : ObjectsView = record o { closures = o.closures ++ f ∷ [] } in
    let there = is_in (λ o. length o.closures) refl (new_closure a w f) w (length o.closures) (subst (λ u. length o.closures < length (objects_of (new_closure a w f) u).closures) (wide_narrow w) h) in
    let in_old : slot w < length a.owners = subst (λ n. slot w < n) (length-set a.owners (slot w) o') there in
    ap (λ u. get_or (objects_of (with_objects a w o') u).closures (length o.closures) no_closure) (wide_narrow w)
    ∙ ap (λ x. get_or x.closures (length o.closures) no_closure) (objects_now a w o' in_old)
    ∙ get_or_push o.closures (f) no_closure (length o.closures) refl

-- those that were there are as before
pub closure_before_new : (a : ArenaView) (w : Owner) (f : Closure) (t : ClosureId) → HasClosure a t → closure_at (new_closure a w f) t ≡ closure_at a t
unfolding HasClosure new_closure closure_at
closure_before_new a w f t h =
    let o = objects_of a w in
    let o' : ObjectsView = record o { closures = o.closures ++ f ∷ [] } in
    elim (cases_eq (slot (wide t.owner)) (slot w)) [
      | inr other ↦ ap (λ x. get_or x.closures t.place no_closure) (objects_other a w (wide t.owner) o' (λ e. other (ap slot e)))
      | inl same ↦
          let is = one_owner (wide t.owner) w same in
          let in_old : slot w < length a.owners = subst (λ n. n < length a.owners) same (is_in (λ o. length o.closures) refl a (wide t.owner) t.place h) in
          let within : t.place < length o.closures = subst (λ u. t.place < length (objects_of a u).closures) is h in
          ap (λ u. get_or (objects_of (with_objects a w o') u).closures t.place no_closure) is
          ∙ ap (λ x. get_or x.closures t.place no_closure) (objects_now a w o' in_old)
          ∙ get_or_append_left o.closures (f ∷ []) no_closure t.place within
          ∙ sym (ap (λ u. get_or (objects_of a u).closures t.place no_closure) is)
    ]

pub table_beside_new_closure : (a : ArenaView) (w : Owner) (f : Closure) (t : TableId) → table_at (new_closure a w f) t ≡ table_at a t
unfolding new_closure table_at
table_beside_new_closure a w f t = part_kept (λ o. get_or o.tables t.place no_table) (λ o. record o { closures = o.closures ++ f ∷ [] }) (λ o. refl) a w (wide t.owner)

pub cell_beside_new_closure : (a : ArenaView) (w : Owner) (f : Closure) (t : CellId) → cell_at (new_closure a w f) t ≡ cell_at a t
unfolding new_closure cell_at
cell_beside_new_closure a w f t = part_kept (λ o. get_or o.cells t.place Nil) (λ o. record o { closures = o.closures ++ f ∷ [] }) (λ o. refl) a w (wide t.owner)

pub thread_beside_new_closure : (a : ArenaView) (w : Owner) (f : Closure) (t : ThreadId) → thread_at (new_closure a w f) t ≡ thread_at a t
unfolding new_closure thread_at
thread_beside_new_closure a w f t = part_kept (λ o. get_or o.threads t.place no_coroutine) (λ o. record o { closures = o.closures ++ f ∷ [] }) (λ o. refl) a w (wide t.owner)

pub others_beside_new_closure : (a : ArenaView) (w : Owner) (f : Closure) (u : Owner) → u ≢ w → objects_of (new_closure a w f) u ≡ objects_of a u
unfolding new_closure
others_beside_new_closure a w f u apart = let o = objects_of a w in objects_other a w u (record o { closures = o.closures ++ f ∷ [] }) apart

-- no id that names something is the next one
pub cell_fresh : (a : ArenaView) (w : Owner) → HasCell a (next_cell a w) → ⊥
unfolding HasCell next_cell
cell_fresh a w h = absurd (omega (arith, subst (λ u. length (objects_of a w).cells < length (objects_of a u).cells) (wide_narrow w) h))

-- the new object
pub new_cell_at : (a : ArenaView) (w : Owner) (v : Value) → HasCell (new_cell a w v) (next_cell a w) → cell_at (new_cell a w v) (next_cell a w) ≡ v
unfolding HasCell next_cell new_cell cell_at
new_cell_at a w v h =
    let o = objects_of a w in
    let o' : ObjectsView = record o { cells = o.cells ++ v ∷ [] } in
    let there = is_in (λ o. length o.cells) refl (new_cell a w v) w (length o.cells) (subst (λ u. length o.cells < length (objects_of (new_cell a w v) u).cells) (wide_narrow w) h) in
    let in_old : slot w < length a.owners = subst (λ n. slot w < n) (length-set a.owners (slot w) o') there in
    ap (λ u. get_or (objects_of (with_objects a w o') u).cells (length o.cells) Nil) (wide_narrow w)
    ∙ ap (λ x. get_or x.cells (length o.cells) Nil) (objects_now a w o' in_old)
    ∙ get_or_push o.cells (v) Nil (length o.cells) refl

-- those that were there are as before
pub cell_before_new : (a : ArenaView) (w : Owner) (v : Value) (t : CellId) → HasCell a t → cell_at (new_cell a w v) t ≡ cell_at a t
unfolding HasCell new_cell cell_at
cell_before_new a w v t h =
    let o = objects_of a w in
    let o' : ObjectsView = record o { cells = o.cells ++ v ∷ [] } in
    elim (cases_eq (slot (wide t.owner)) (slot w)) [
      | inr other ↦ ap (λ x. get_or x.cells t.place Nil) (objects_other a w (wide t.owner) o' (λ e. other (ap slot e)))
      | inl same ↦
          let is = one_owner (wide t.owner) w same in
          let in_old : slot w < length a.owners = subst (λ n. n < length a.owners) same (is_in (λ o. length o.cells) refl a (wide t.owner) t.place h) in
          let within : t.place < length o.cells = subst (λ u. t.place < length (objects_of a u).cells) is h in
          ap (λ u. get_or (objects_of (with_objects a w o') u).cells t.place Nil) is
          ∙ ap (λ x. get_or x.cells t.place Nil) (objects_now a w o' in_old)
          ∙ get_or_append_left o.cells (v ∷ []) Nil t.place within
          ∙ sym (ap (λ u. get_or (objects_of a u).cells t.place Nil) is)
    ]

pub table_beside_new_cell : (a : ArenaView) (w : Owner) (v : Value) (t : TableId) → table_at (new_cell a w v) t ≡ table_at a t
unfolding new_cell table_at
table_beside_new_cell a w v t = part_kept (λ o. get_or o.tables t.place no_table) (λ o. record o { cells = o.cells ++ v ∷ [] }) (λ o. refl) a w (wide t.owner)

pub closure_beside_new_cell : (a : ArenaView) (w : Owner) (v : Value) (t : ClosureId) → closure_at (new_cell a w v) t ≡ closure_at a t
unfolding new_cell closure_at
closure_beside_new_cell a w v t = part_kept (λ o. get_or o.closures t.place no_closure) (λ o. record o { cells = o.cells ++ v ∷ [] }) (λ o. refl) a w (wide t.owner)

pub thread_beside_new_cell : (a : ArenaView) (w : Owner) (v : Value) (t : ThreadId) → thread_at (new_cell a w v) t ≡ thread_at a t
unfolding new_cell thread_at
thread_beside_new_cell a w v t = part_kept (λ o. get_or o.threads t.place no_coroutine) (λ o. record o { cells = o.cells ++ v ∷ [] }) (λ o. refl) a w (wide t.owner)

pub others_beside_new_cell : (a : ArenaView) (w : Owner) (v : Value) (u : Owner) → u ≢ w → objects_of (new_cell a w v) u ≡ objects_of a u
unfolding new_cell
others_beside_new_cell a w v u apart = let o = objects_of a w in objects_other a w u (record o { cells = o.cells ++ v ∷ [] }) apart

-- no id that names something is the next one
pub thread_fresh : (a : ArenaView) (w : Owner) → HasThread a (next_thread a w) → ⊥
unfolding HasThread next_thread
thread_fresh a w h = absurd (omega (arith, subst (λ u. length (objects_of a w).threads < length (objects_of a u).threads) (wide_narrow w) h))

-- the new object
pub new_thread_at : (a : ArenaView) (w : Owner) (body : Value) → HasThread (new_thread a w body) (next_thread a w) → thread_at (new_thread a w body) (next_thread a w) ≡ new_coroutine body
unfolding HasThread next_thread new_thread thread_at
new_thread_at a w body h =
    let o = objects_of a w in
    let o' : ObjectsView = record o { threads = o.threads ++ new_coroutine body ∷ [] } in
    let there = is_in (λ o. length o.threads) refl (new_thread a w body) w (length o.threads) (subst (λ u. length o.threads < length (objects_of (new_thread a w body) u).threads) (wide_narrow w) h) in
    let in_old : slot w < length a.owners = subst (λ n. slot w < n) (length-set a.owners (slot w) o') there in
    ap (λ u. get_or (objects_of (with_objects a w o') u).threads (length o.threads) no_coroutine) (wide_narrow w)
    ∙ ap (λ x. get_or x.threads (length o.threads) no_coroutine) (objects_now a w o' in_old)
    ∙ get_or_push o.threads (new_coroutine body) no_coroutine (length o.threads) refl

-- those that were there are as before
pub thread_before_new : (a : ArenaView) (w : Owner) (body : Value) (t : ThreadId) → HasThread a t → thread_at (new_thread a w body) t ≡ thread_at a t
unfolding HasThread new_thread thread_at
thread_before_new a w body t h =
    let o = objects_of a w in
    let o' : ObjectsView = record o { threads = o.threads ++ new_coroutine body ∷ [] } in
    elim (cases_eq (slot (wide t.owner)) (slot w)) [
      | inr other ↦ ap (λ x. get_or x.threads t.place no_coroutine) (objects_other a w (wide t.owner) o' (λ e. other (ap slot e)))
      | inl same ↦
          let is = one_owner (wide t.owner) w same in
          let in_old : slot w < length a.owners = subst (λ n. n < length a.owners) same (is_in (λ o. length o.threads) refl a (wide t.owner) t.place h) in
          let within : t.place < length o.threads = subst (λ u. t.place < length (objects_of a u).threads) is h in
          ap (λ u. get_or (objects_of (with_objects a w o') u).threads t.place no_coroutine) is
          ∙ ap (λ x. get_or x.threads t.place no_coroutine) (objects_now a w o' in_old)
          ∙ get_or_append_left o.threads (new_coroutine body ∷ []) no_coroutine t.place within
          ∙ sym (ap (λ u. get_or (objects_of a u).threads t.place no_coroutine) is)
    ]

pub table_beside_new_thread : (a : ArenaView) (w : Owner) (body : Value) (t : TableId) → table_at (new_thread a w body) t ≡ table_at a t
unfolding new_thread table_at
table_beside_new_thread a w body t = part_kept (λ o. get_or o.tables t.place no_table) (λ o. record o { threads = o.threads ++ new_coroutine body ∷ [] }) (λ o. refl) a w (wide t.owner)

pub closure_beside_new_thread : (a : ArenaView) (w : Owner) (body : Value) (t : ClosureId) → closure_at (new_thread a w body) t ≡ closure_at a t
unfolding new_thread closure_at
closure_beside_new_thread a w body t = part_kept (λ o. get_or o.closures t.place no_closure) (λ o. record o { threads = o.threads ++ new_coroutine body ∷ [] }) (λ o. refl) a w (wide t.owner)

pub cell_beside_new_thread : (a : ArenaView) (w : Owner) (body : Value) (t : CellId) → cell_at (new_thread a w body) t ≡ cell_at a t
unfolding new_thread cell_at
cell_beside_new_thread a w body t = part_kept (λ o. get_or o.cells t.place Nil) (λ o. record o { threads = o.threads ++ new_coroutine body ∷ [] }) (λ o. refl) a w (wide t.owner)

pub others_beside_new_thread : (a : ArenaView) (w : Owner) (body : Value) (u : Owner) → u ≢ w → objects_of (new_thread a w body) u ≡ objects_of a u
unfolding new_thread
others_beside_new_thread a w body u apart = let o = objects_of a w in objects_other a w u (record o { threads = o.threads ++ new_coroutine body ∷ [] }) apart
