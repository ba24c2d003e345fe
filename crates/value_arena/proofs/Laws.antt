-- What a change of one object leaves as it was.
use Rattle.std.proofs.Common.{◌≡◌, ◌≢◌, ℕ, zero, suc, ◌<◌, ◌≤◌, List, [], ◌∷◌, ◌++◌, length, get_or, set, refl, sym, ◌∙◌, ap, subst, arith, length-append, inl, inr}
use Rattle.std.proofs.lemmas.Bool.{cases_eq}
use Rattle.std.proofs.lemmas.List.{get_or-set_same, get_or-set_other, set-get_or}
use Rattle.value_model.specs.Owners.{wide}
use Rattle.value_model.specs.declared.ids.Owner.{Owner}
use Rattle.value_model.specs.declared.ids.Owner.TheVariants.{Frozen, Script}
use Rattle.value_model.specs.declared.ids.ShortOwner.{ShortOwner}
use Rattle.value_model.specs.declared.ids.ShortOwner.TheVariants as short
use Rattle.value_model.specs.declared.ids.TableId.{TableId}
use Rattle.value_model.specs.declared.ids.ClosureId.{ClosureId}
use Rattle.value_model.specs.declared.ids.CellId.{CellId}
use Rattle.value_model.specs.declared.ids.ThreadId.{ThreadId}
use Rattle.value_model.specs.declared.value.Value.{Value}
use Rattle.value_model.specs.declared.value.Value.TheVariants.{Nil}
use Rattle.value_arena.specs.declared.closure.Closure.{Closure}
use Rattle.value_arena.specs.declared.closure.Thread.{Thread}
use Rattle.value_arena.specs.Tables.{TableView, no_table}
use Rattle.value_arena.specs.Objects.{ObjectsView, no_objects, no_closure, no_coroutine, new_coroutine}
use Rattle.value_arena.specs.Arenas.{ArenaView, HasTable, HasClosure, HasCell, HasThread, objects_of, with_objects, slot, narrow, table_at, with_table, closure_at, with_closure, cell_at, with_cell, thread_at, with_thread, new_table, next_table, new_closure, next_closure, new_cell, next_cell, new_thread, next_thread}

-- no two owners have one slot
pub one_owner : (w u : Owner) → slot w ≡ slot u → w ≡ u
one_owner Frozen Frozen e = refl
one_owner Frozen (Script n) e = absurd (omega arith)
one_owner (Script m) Frozen e = absurd (omega arith)
one_owner (Script m) (Script n) e = let same : m ≡ n = omega arith in ap Script same

-- an owner in an id is the owner
pub wide_narrow : (w : Owner) → wide (narrow w) ≡ w
wide_narrow Frozen = refl
wide_narrow (Script n) = refl

-- an owner with an object is there
pub is_in : (size : ObjectsView → ℕ) → size no_objects ≡ 0 → (a : ArenaView) (w : Owner) (n : ℕ) → n < size (objects_of a w) → slot w < length a.owners
is_in size none a w n h = within a.owners (slot w) h
  where
    within : (os : List ObjectsView) (i : ℕ) → n < size (get_or os i no_objects) → i < length os
    within [] i h = absurd (omega (arith, none))
    within (o ∷ os) zero h = omega arith
    within (o ∷ os) (suc i) h = omega (arith, within os i h)

-- ---- objects of owners

pub objects_kept : (a : ArenaView) (w : Owner) → with_objects a w (objects_of a w) ≡ a
objects_kept a w = ap (λ os. record { owners = os; running = a.running }) (set-get_or a.owners (slot w) no_objects)

pub objects_now : (a : ArenaView) (w : Owner) (o : ObjectsView) → slot w < length a.owners → objects_of (with_objects a w o) w ≡ o
objects_now a w o h = get_or-set_same a.owners (slot w) o no_objects h

pub objects_other : (a : ArenaView) (w u : Owner) (o : ObjectsView) → u ≢ w → objects_of (with_objects a w o) u ≡ objects_of a u
objects_other a w u o apart = get_or-set_other a.owners (slot w) (slot u) o no_objects (λ e. apart (one_owner u w e))

-- a part of an owner's objects that a change keeps is the same of each owner
pub part_kept : {P : Type 0} (part : ObjectsView → P) (f : ObjectsView → ObjectsView) → ((o : ObjectsView) → part (f o) ≡ part o) → (a : ArenaView) (w u : Owner) → part (objects_of (with_objects a w (f (objects_of a w))) u) ≡ part (objects_of a u)
part_kept part f same a w u = by a.owners (slot w) (slot u)
  where
    by : (os : List ObjectsView) (i j : ℕ) → part (get_or (set os i (f (get_or os i no_objects))) j no_objects) ≡ part (get_or os j no_objects)
    by [] i j = refl
    by (o ∷ os) zero zero = same o
    by (o ∷ os) zero (suc j) = refl
    by (o ∷ os) (suc i) zero = refl
    by (o ∷ os) (suc i) (suc j) = by os i j

-- a part that a change does not lessen is no less of any owner
pub part_grows : (size : ObjectsView → ℕ) (f : ObjectsView → ObjectsView) → ((o : ObjectsView) → size o ≤ size (f o)) → (a : ArenaView) (w u : Owner) → size (objects_of a u) ≤ size (objects_of (with_objects a w (f (objects_of a w))) u)
part_grows size f more a w u = by a.owners (slot w) (slot u)
  where
    by : (os : List ObjectsView) (i j : ℕ) → size (get_or os j no_objects) ≤ size (get_or (set os i (f (get_or os i no_objects))) j no_objects)
    by [] i j = omega arith
    by (o ∷ os) zero zero = more o
    by (o ∷ os) zero (suc j) = omega arith
    by (o ∷ os) (suc i) zero = omega arith
    by (o ∷ os) (suc i) (suc j) = by os i j

-- an owner in an id is told from the owner that it stands for
pub short_is : (s r : ShortOwner) → wide s ≡ wide r → s ≡ r
short_is s r e = sym (back s) ∙ ap narrow e ∙ back r
  where
    back : (s : ShortOwner) → narrow (wide s) ≡ s
    back short.Frozen = refl
    back (short.Script n) = refl

-- ---- tables

pub table_kept : (a : ArenaView) (t : TableId) → with_table a t (table_at a t) ≡ a
unfolding table_at with_table
table_kept a t =
    let o = objects_of a (wide t.owner) in
    ap (λ xs. with_objects a (wide t.owner) (record o { tables = xs })) (set-get_or o.tables t.place no_table) ∙ objects_kept a (wide t.owner)

pub table_now : (a : ArenaView) (t : TableId) (v : TableView) → HasTable a t → table_at (with_table a t v) t ≡ v
unfolding table_at with_table HasTable
table_now a t v h =
    let o = objects_of a (wide t.owner) in
    ap (λ o. get_or o.tables t.place no_table) (objects_now a (wide t.owner) (record o { tables = set o.tables t.place v }) (is_in (λ o. length o.tables) refl a (wide t.owner) t.place h))
    ∙ get_or-set_same o.tables t.place v no_table h

pub table_other : (a : ArenaView) (t u : TableId) (v : TableView) → u ≢ t → table_at (with_table a t v) u ≡ table_at a u
unfolding table_at with_table
table_other a t u v apart =
    elim (cases_eq u.place t.place) [
      | inr other ↦ part_kept (λ o. get_or o.tables u.place no_table) (λ o. record o { tables = set o.tables t.place v }) (λ o. get_or-set_other o.tables t.place u.place v no_table other) a (wide t.owner) (wide u.owner)
      | inl place ↦
          let o = objects_of a (wide t.owner) in
          let beyond : wide u.owner ≢ wide t.owner = λ e. apart (ap (λ w. record { owner = w; place = u.place }) (short_is u.owner t.owner e) ∙ ap (λ n. record { owner = t.owner; place = n }) place) in
          ap (λ o. get_or o.tables u.place no_table) (objects_other a (wide t.owner) (wide u.owner) (record o { tables = set o.tables t.place v }) beyond)
    ]

pub closure_beside_table : (a : ArenaView) (t : TableId) (v : TableView) (u : ClosureId) → closure_at (with_table a t v) u ≡ closure_at a u
unfolding closure_at with_table
closure_beside_table a t v u = part_kept (λ o. get_or o.closures u.place no_closure) (λ o. record o { tables = set o.tables t.place v }) (λ o. refl) a (wide t.owner) (wide u.owner)

pub cell_beside_table : (a : ArenaView) (t : TableId) (v : TableView) (u : CellId) → cell_at (with_table a t v) u ≡ cell_at a u
unfolding cell_at with_table
cell_beside_table a t v u = part_kept (λ o. get_or o.cells u.place Nil) (λ o. record o { tables = set o.tables t.place v }) (λ o. refl) a (wide t.owner) (wide u.owner)

pub thread_beside_table : (a : ArenaView) (t : TableId) (v : TableView) (u : ThreadId) → thread_at (with_table a t v) u ≡ thread_at a u
unfolding thread_at with_table
thread_beside_table a t v u = part_kept (λ o. get_or o.threads u.place no_coroutine) (λ o. record o { tables = set o.tables t.place v }) (λ o. refl) a (wide t.owner) (wide u.owner)

pub others_beside_table : (a : ArenaView) (t : TableId) (v : TableView) (w : Owner) → w ≢ wide t.owner → objects_of (with_table a t v) w ≡ objects_of a w
unfolding with_table
others_beside_table a t v w apart = let o = objects_of a (wide t.owner) in objects_other a (wide t.owner) w (record o { tables = set o.tables t.place v }) apart

-- ---- closures

pub closure_kept : (a : ArenaView) (t : ClosureId) → with_closure a t (closure_at a t) ≡ a
unfolding closure_at with_closure
closure_kept a t =
    let o = objects_of a (wide t.owner) in
    ap (λ xs. with_objects a (wide t.owner) (record o { closures = xs })) (set-get_or o.closures t.place no_closure) ∙ objects_kept a (wide t.owner)

pub closure_now : (a : ArenaView) (t : ClosureId) (v : Closure) → HasClosure a t → closure_at (with_closure a t v) t ≡ v
unfolding closure_at with_closure HasClosure
closure_now a t v h =
    let o = objects_of a (wide t.owner) in
    ap (λ o. get_or o.closures t.place no_closure) (objects_now a (wide t.owner) (record o { closures = set o.closures t.place v }) (is_in (λ o. length o.closures) refl a (wide t.owner) t.place h))
    ∙ get_or-set_same o.closures t.place v no_closure h

pub closure_other : (a : ArenaView) (t u : ClosureId) (v : Closure) → u ≢ t → closure_at (with_closure a t v) u ≡ closure_at a u
unfolding closure_at with_closure
closure_other a t u v apart =
    elim (cases_eq u.place t.place) [
      | inr other ↦ part_kept (λ o. get_or o.closures u.place no_closure) (λ o. record o { closures = set o.closures t.place v }) (λ o. get_or-set_other o.closures t.place u.place v no_closure other) a (wide t.owner) (wide u.owner)
      | inl place ↦
          let o = objects_of a (wide t.owner) in
          let beyond : wide u.owner ≢ wide t.owner = λ e. apart (ap (λ w. record { owner = w; place = u.place }) (short_is u.owner t.owner e) ∙ ap (λ n. record { owner = t.owner; place = n }) place) in
          ap (λ o. get_or o.closures u.place no_closure) (objects_other a (wide t.owner) (wide u.owner) (record o { closures = set o.closures t.place v }) beyond)
    ]

pub table_beside_closure : (a : ArenaView) (t : ClosureId) (v : Closure) (u : TableId) → table_at (with_closure a t v) u ≡ table_at a u
unfolding table_at with_closure
table_beside_closure a t v u = part_kept (λ o. get_or o.tables u.place no_table) (λ o. record o { closures = set o.closures t.place v }) (λ o. refl) a (wide t.owner) (wide u.owner)

pub cell_beside_closure : (a : ArenaView) (t : ClosureId) (v : Closure) (u : CellId) → cell_at (with_closure a t v) u ≡ cell_at a u
unfolding cell_at with_closure
cell_beside_closure a t v u = part_kept (λ o. get_or o.cells u.place Nil) (λ o. record o { closures = set o.closures t.place v }) (λ o. refl) a (wide t.owner) (wide u.owner)

pub thread_beside_closure : (a : ArenaView) (t : ClosureId) (v : Closure) (u : ThreadId) → thread_at (with_closure a t v) u ≡ thread_at a u
unfolding thread_at with_closure
thread_beside_closure a t v u = part_kept (λ o. get_or o.threads u.place no_coroutine) (λ o. record o { closures = set o.closures t.place v }) (λ o. refl) a (wide t.owner) (wide u.owner)

pub others_beside_closure : (a : ArenaView) (t : ClosureId) (v : Closure) (w : Owner) → w ≢ wide t.owner → objects_of (with_closure a t v) w ≡ objects_of a w
unfolding with_closure
others_beside_closure a t v w apart = let o = objects_of a (wide t.owner) in objects_other a (wide t.owner) w (record o { closures = set o.closures t.place v }) apart

-- ---- cells

pub cell_kept : (a : ArenaView) (t : CellId) → with_cell a t (cell_at a t) ≡ a
unfolding cell_at with_cell
cell_kept a t =
    let o = objects_of a (wide t.owner) in
    ap (λ xs. with_objects a (wide t.owner) (record o { cells = xs })) (set-get_or o.cells t.place Nil) ∙ objects_kept a (wide t.owner)

pub cell_now : (a : ArenaView) (t : CellId) (v : Value) → HasCell a t → cell_at (with_cell a t v) t ≡ v
unfolding cell_at with_cell HasCell
cell_now a t v h =
    let o = objects_of a (wide t.owner) in
    ap (λ o. get_or o.cells t.place Nil) (objects_now a (wide t.owner) (record o { cells = set o.cells t.place v }) (is_in (λ o. length o.cells) refl a (wide t.owner) t.place h))
    ∙ get_or-set_same o.cells t.place v Nil h

pub cell_other : (a : ArenaView) (t u : CellId) (v : Value) → u ≢ t → cell_at (with_cell a t v) u ≡ cell_at a u
unfolding cell_at with_cell
cell_other a t u v apart =
    elim (cases_eq u.place t.place) [
      | inr other ↦ part_kept (λ o. get_or o.cells u.place Nil) (λ o. record o { cells = set o.cells t.place v }) (λ o. get_or-set_other o.cells t.place u.place v Nil other) a (wide t.owner) (wide u.owner)
      | inl place ↦
          let o = objects_of a (wide t.owner) in
          let beyond : wide u.owner ≢ wide t.owner = λ e. apart (ap (λ w. record { owner = w; place = u.place }) (short_is u.owner t.owner e) ∙ ap (λ n. record { owner = t.owner; place = n }) place) in
          ap (λ o. get_or o.cells u.place Nil) (objects_other a (wide t.owner) (wide u.owner) (record o { cells = set o.cells t.place v }) beyond)
    ]

pub table_beside_cell : (a : ArenaView) (t : CellId) (v : Value) (u : TableId) → table_at (with_cell a t v) u ≡ table_at a u
unfolding table_at with_cell
table_beside_cell a t v u = part_kept (λ o. get_or o.tables u.place no_table) (λ o. record o { cells = set o.cells t.place v }) (λ o. refl) a (wide t.owner) (wide u.owner)

pub closure_beside_cell : (a : ArenaView) (t : CellId) (v : Value) (u : ClosureId) → closure_at (with_cell a t v) u ≡ closure_at a u
unfolding closure_at with_cell
closure_beside_cell a t v u = part_kept (λ o. get_or o.closures u.place no_closure) (λ o. record o { cells = set o.cells t.place v }) (λ o. refl) a (wide t.owner) (wide u.owner)

pub thread_beside_cell : (a : ArenaView) (t : CellId) (v : Value) (u : ThreadId) → thread_at (with_cell a t v) u ≡ thread_at a u
unfolding thread_at with_cell
thread_beside_cell a t v u = part_kept (λ o. get_or o.threads u.place no_coroutine) (λ o. record o { cells = set o.cells t.place v }) (λ o. refl) a (wide t.owner) (wide u.owner)

pub others_beside_cell : (a : ArenaView) (t : CellId) (v : Value) (w : Owner) → w ≢ wide t.owner → objects_of (with_cell a t v) w ≡ objects_of a w
unfolding with_cell
others_beside_cell a t v w apart = let o = objects_of a (wide t.owner) in objects_other a (wide t.owner) w (record o { cells = set o.cells t.place v }) apart

-- ---- threads

pub thread_kept : (a : ArenaView) (t : ThreadId) → with_thread a t (thread_at a t) ≡ a
unfolding thread_at with_thread
thread_kept a t =
    let o = objects_of a (wide t.owner) in
    ap (λ xs. with_objects a (wide t.owner) (record o { threads = xs })) (set-get_or o.threads t.place no_coroutine) ∙ objects_kept a (wide t.owner)

pub thread_now : (a : ArenaView) (t : ThreadId) (v : Thread) → HasThread a t → thread_at (with_thread a t v) t ≡ v
unfolding thread_at with_thread HasThread
thread_now a t v h =
    let o = objects_of a (wide t.owner) in
    ap (λ o. get_or o.threads t.place no_coroutine) (objects_now a (wide t.owner) (record o { threads = set o.threads t.place v }) (is_in (λ o. length o.threads) refl a (wide t.owner) t.place h))
    ∙ get_or-set_same o.threads t.place v no_coroutine h

pub thread_other : (a : ArenaView) (t u : ThreadId) (v : Thread) → u ≢ t → thread_at (with_thread a t v) u ≡ thread_at a u
unfolding thread_at with_thread
thread_other a t u v apart =
    elim (cases_eq u.place t.place) [
      | inr other ↦ part_kept (λ o. get_or o.threads u.place no_coroutine) (λ o. record o { threads = set o.threads t.place v }) (λ o. get_or-set_other o.threads t.place u.place v no_coroutine other) a (wide t.owner) (wide u.owner)
      | inl place ↦
          let o = objects_of a (wide t.owner) in
          let beyond : wide u.owner ≢ wide t.owner = λ e. apart (ap (λ w. record { owner = w; place = u.place }) (short_is u.owner t.owner e) ∙ ap (λ n. record { owner = t.owner; place = n }) place) in
          ap (λ o. get_or o.threads u.place no_coroutine) (objects_other a (wide t.owner) (wide u.owner) (record o { threads = set o.threads t.place v }) beyond)
    ]

pub table_beside_thread : (a : ArenaView) (t : ThreadId) (v : Thread) (u : TableId) → table_at (with_thread a t v) u ≡ table_at a u
unfolding table_at with_thread
table_beside_thread a t v u = part_kept (λ o. get_or o.tables u.place no_table) (λ o. record o { threads = set o.threads t.place v }) (λ o. refl) a (wide t.owner) (wide u.owner)

pub closure_beside_thread : (a : ArenaView) (t : ThreadId) (v : Thread) (u : ClosureId) → closure_at (with_thread a t v) u ≡ closure_at a u
unfolding closure_at with_thread
closure_beside_thread a t v u = part_kept (λ o. get_or o.closures u.place no_closure) (λ o. record o { threads = set o.threads t.place v }) (λ o. refl) a (wide t.owner) (wide u.owner)

pub cell_beside_thread : (a : ArenaView) (t : ThreadId) (v : Thread) (u : CellId) → cell_at (with_thread a t v) u ≡ cell_at a u
unfolding cell_at with_thread
cell_beside_thread a t v u = part_kept (λ o. get_or o.cells u.place Nil) (λ o. record o { threads = set o.threads t.place v }) (λ o. refl) a (wide t.owner) (wide u.owner)

pub others_beside_thread : (a : ArenaView) (t : ThreadId) (v : Thread) (w : Owner) → w ≢ wide t.owner → objects_of (with_thread a t v) w ≡ objects_of a w
unfolding with_thread
others_beside_thread a t v w apart = let o = objects_of a (wide t.owner) in objects_other a (wide t.owner) w (record o { threads = set o.threads t.place v }) apart

-- ---- new objects

pub table_made : (a : ArenaView) (w : Owner) → slot w < length a.owners → HasTable (new_table a w) (next_table a w)
unfolding HasTable new_table next_table
table_made a w h =
    let o = objects_of a w in
    let o' : ObjectsView = record o { tables = o.tables ++ no_table ∷ [] } in
    subst (λ u. length o.tables < length (objects_of (with_objects a w o') u).tables) (sym (wide_narrow w))
    (subst (λ (x : ObjectsView). length o.tables < length x.tables) (sym (objects_now a w o' h)) (omega (arith, length-append o.tables (no_table ∷ []))))

pub closure_made : (a : ArenaView) (w : Owner) (f : Closure) → slot w < length a.owners → HasClosure (new_closure a w f) (next_closure a w)
unfolding HasClosure new_closure next_closure
closure_made a w f h =
    let o = objects_of a w in
    let o' : ObjectsView = record o { closures = o.closures ++ f ∷ [] } in
    subst (λ u. length o.closures < length (objects_of (with_objects a w o') u).closures) (sym (wide_narrow w))
    (subst (λ (x : ObjectsView). length o.closures < length x.closures) (sym (objects_now a w o' h)) (omega (arith, length-append o.closures (f ∷ []))))

pub cell_made : (a : ArenaView) (w : Owner) (v : Value) → slot w < length a.owners → HasCell (new_cell a w v) (next_cell a w)
unfolding HasCell new_cell next_cell
cell_made a w v h =
    let o = objects_of a w in
    let o' : ObjectsView = record o { cells = o.cells ++ v ∷ [] } in
    subst (λ u. length o.cells < length (objects_of (with_objects a w o') u).cells) (sym (wide_narrow w))
    (subst (λ (x : ObjectsView). length o.cells < length x.cells) (sym (objects_now a w o' h)) (omega (arith, length-append o.cells (v ∷ []))))

pub thread_made : (a : ArenaView) (w : Owner) (body : Value) → slot w < length a.owners → HasThread (new_thread a w body) (next_thread a w)
unfolding HasThread new_thread next_thread
thread_made a w body h =
    let o = objects_of a w in
    let o' : ObjectsView = record o { threads = o.threads ++ new_coroutine body ∷ [] } in
    subst (λ u. length o.threads < length (objects_of (with_objects a w o') u).threads) (sym (wide_narrow w))
    (subst (λ (x : ObjectsView). length o.threads < length x.threads) (sym (objects_now a w o' h)) (omega (arith, length-append o.threads (new_coroutine body ∷ []))))
