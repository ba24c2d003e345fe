-- Objects refer only to objects that are there, of their owner or of nobody: each change keeps that, given that what it stores does.
use Rattle.std.proofs.Common.{◌≡◌, ℕ, zero, suc, ◌<◌, List, [], ◌∷◌, ◌++◌, length, get_or, set, Option, Some, None, IfSome, sym, ap, subst, arith, refl, Bool, true, false, cond}
use Rattle.std.proofs.lemmas.List.{length-set}
use Rattle.std.specs.List.{AllByRecursion}
use Rattle.value_model.specs.Owners.{wide}
use Rattle.value_model.specs.declared.ids.Owner.{Owner}
use Rattle.value_model.specs.declared.ids.TableId.{TableId}
use Rattle.value_model.specs.declared.ids.ClosureId.{ClosureId}
use Rattle.value_model.specs.declared.ids.CellId.{CellId}
use Rattle.value_model.specs.declared.ids.ThreadId.{ThreadId}
use Rattle.value_model.specs.declared.value.Value.{Value}
use Rattle.value_model.specs.declared.value.Value.TheVariants as value
use Rattle.value_model.specs.declared.value.Value.TheVariants.{Nil}
use Rattle.value_arena.specs.declared.closure.Closure.{Closure}
use Rattle.value_arena.specs.declared.closure.Thread.{Thread}
use Rattle.value_arena.specs.Tables.{TableView, Entries, same, is_nil, no_table}
use Rattle.value_arena.specs.Objects.{ObjectsView, no_objects, no_closure, no_coroutine, new_coroutine}
use Rattle.value_arena.specs.Arenas.{ArenaView, HasClosure, HasCell, objects_of, with_objects, slot, table_at, with_table, closure_at, with_closure, cell_at, with_cell, thread_at, with_thread, new_table, new_closure, new_cell, new_thread}
use Rattle.value_arena.specs.Growing.{Grows}
use Rattle.value_arena.specs.Owning.{MaySee, MayHold, MayBeTable, MayBeClosure, MayBeThread, IsOwned}
use Rattle.value_arena.proofs.Borders.{put}
use Rattle.value_arena.proofs.Laws.{one_owner}
use Rattle.value_arena.proofs.Growing.{table_stays, closure_stays, cell_stays, thread_stays, with_table_grows, with_closure_grows, with_cell_grows, with_thread_grows, new_table_grows, new_closure_grows, new_cell_grows, new_thread_grows}

-- ---- what may be held goes on to be so, as arenas grow

all_on : {X : Type 0} (P Q : X → Type 0) → ((x : X) → P x → Q x) → (xs : List X) → AllByRecursion P xs → AllByRecursion Q xs
all_on P Q f [] h = tt
all_on P Q f (x ∷ xs) h = (f x h.0, all_on P Q f xs h.1)

some_on : {X : Type 0} (P Q : X → Type 0) → ((x : X) → P x → Q x) → (r : Option X) → IfSome r P → IfSome r Q
some_on P Q f None h = h
some_on P Q f (Some x) h = f x h

pub hold_on : (a b : ArenaView) (w : Owner) (v : Value) → Grows a b → MayHold a w v → MayHold b w v
hold_on a b w (value.Table t) g h = (h.0, table_stays a b t g h.1)
hold_on a b w (value.Closure f) g h = (h.0, closure_stays a b f g h.1)
hold_on a b w (value.Wrap t) g h = (h.0, thread_stays a b t g h.1)
hold_on a b w (value.Thread t) g h = (h.0, thread_stays a b t g h.1)
hold_on a b w value.Nil g h = tt
hold_on a b w (value.Bool x) g h = tt
hold_on a b w (value.Num x) g h = tt
hold_on a b w (value.Str x) g h = tt
hold_on a b w (value.Native x) g h = tt
hold_on a b w (value.Host x) g h = tt

pub table_on : (a b : ArenaView) (w : Owner) (t : TableView) → Grows a b → MayBeTable a w t → MayBeTable b w t
table_on a b w t g h = (
  all_on (λ e. MayHold a w e.0 × MayHold a w e.1) (λ e. MayHold b w e.0 × MayHold b w e.1) (λ e p. (hold_on a b w e.0 g p.0, hold_on a b w e.1 g p.1)) t.entries h.0,
  some_on (λ m. MayHold a w (value.Table m)) (λ m. MayHold b w (value.Table m)) (λ m p. hold_on a b w (value.Table m) g p) t.meta h.1,
)

pub closure_on : (a b : ArenaView) (w : Owner) (f : Closure) → Grows a b → MayBeClosure a w f → MayBeClosure b w f
closure_on a b w f g h = (
  hold_on a b w (value.Table f.env) g h.0,
  all_on (λ c. MaySee w (wide c.owner) × HasCell a c) (λ c. MaySee w (wide c.owner) × HasCell b c) (λ c p. (p.0, cell_stays a b c g p.1)) f.cells h.1,
)

pub thread_on : (a b : ArenaView) (w : Owner) (t : Thread) → Grows a b → MayBeThread a w t → MayBeThread b w t
thread_on a b w t g h = (
  hold_on a b w t.body g h.0,
  some_on (λ r. MayHold a w (value.Thread r)) (λ r. MayHold b w (value.Thread r)) (λ r p. hold_on a b w (value.Thread r) g p) t.resumer h.1,
  some_on (λ v. MayHold a w v) (λ v. MayHold b w v) (λ v p. hold_on a b w v g p) t.failure h.2,
)

-- ---- what holds of an owner's objects goes on to hold, where a change of its objects keeps it

part_held : (Q : ObjectsView → Type 0) (f : ObjectsView → ObjectsView) (a : ArenaView) (w u : Owner) → (u ≡ w → (o : ObjectsView) → Q o → Q (f o)) → Q (objects_of a u) → Q (objects_of (with_objects a w (f (objects_of a w))) u)
part_held Q f a w u step h = by a.owners (slot w) (slot u) (λ e o q. step (one_owner u w (sym e)) o q) h
  where
    by : (os : List ObjectsView) (i j : ℕ) → (i ≡ j → (o : ObjectsView) → Q o → Q (f o)) → Q (get_or os j no_objects) → Q (get_or (set os i (f (get_or os i no_objects))) j no_objects)
    by [] i j step h = h
    by (o ∷ os) zero zero step h = step refl o h
    by (o ∷ os) zero (suc j) step h = h
    by (o ∷ os) (suc i) zero step h = h
    by (o ∷ os) (suc i) (suc j) step h = by os i j (λ e. step (ap suc e)) h

set_held : {X : Type 0} (P : X → Type 0) (xs : List X) (i j : ℕ) (v d : X) → P (get_or xs j d) → P v → P (get_or (set xs i v) j d)
set_held P [] i j v d h k = h
set_held P (x ∷ xs) zero zero v d h k = k
set_held P (x ∷ xs) zero (suc j) v d h k = h
set_held P (x ∷ xs) (suc i) zero v d h k = h
set_held P (x ∷ xs) (suc i) (suc j) v d h k = set_held P xs i j v d h k

push_held : {X : Type 0} (P : X → Type 0) (xs : List X) (j : ℕ) (v d : X) → P (get_or xs j d) → P v → P (get_or (xs ++ v ∷ []) j d)
push_held P [] zero v d h k = k
push_held P [] (suc j) v d h k = h
push_held P (x ∷ xs) zero v d h k = h
push_held P (x ∷ xs) (suc j) v d h k = push_held P xs j v d h k

-- the same of the objects that are there
push_there : {X : Type 0} (P : X → Type 0) (xs : List X) (j : ℕ) (v d : X) → (j < length xs → P (get_or xs j d)) → P v → j < length (xs ++ v ∷ []) → P (get_or (xs ++ v ∷ []) j d)
push_there P [] zero v d h k l = k
push_there P [] (suc j) v d h k l = absurd (omega (arith, l))
push_there P (x ∷ xs) zero v d h k l = h (omega arith)
push_there P (x ∷ xs) (suc j) v d h k l = push_there P xs j v d (λ m. h (omega (arith, m))) k (omega (arith, l))

pub owned_with_table : (a : ArenaView) (t : TableId) (v : TableView) → IsOwned a → MayBeTable a (wide t.owner) v → IsOwned (with_table a t v)
unfolding with_table table_at closure_at cell_at thread_at HasClosure
owned_with_table a t v own new =
    let b = with_table a t v in
    let g = with_table_grows a t v in
    record {
      tables = λ u. part_held (λ o. MayBeTable b (wide u.owner) (get_or o.tables u.place no_table)) (λ o. record o { tables = set o.tables t.place v }) a (wide t.owner) (wide u.owner) (λ e o q. set_held (λ x. MayBeTable b (wide u.owner) x) o.tables t.place u.place v no_table q (subst (λ w. MayBeTable b w v) (sym e) (table_on a b (wide t.owner) v g new))) (table_on a b (wide u.owner) (table_at a u) g (own.tables u));
      closures = λ u. part_held (λ o. u.place < length o.closures → MayBeClosure b (wide u.owner) (get_or o.closures u.place no_closure)) (λ o. record o { tables = set o.tables t.place v }) a (wide t.owner) (wide u.owner) (λ e o q. q) (λ l. closure_on a b (wide u.owner) (closure_at a u) g (own.closures u l));
      cells = λ u. part_held (λ o. MayHold b (wide u.owner) (get_or o.cells u.place Nil)) (λ o. record o { tables = set o.tables t.place v }) a (wide t.owner) (wide u.owner) (λ e o q. q) (hold_on a b (wide u.owner) (cell_at a u) g (own.cells u));
      threads = λ u. part_held (λ o. MayBeThread b (wide u.owner) (get_or o.threads u.place no_coroutine)) (λ o. record o { tables = set o.tables t.place v }) a (wide t.owner) (wide u.owner) (λ e o q. q) (thread_on a b (wide u.owner) (thread_at a u) g (own.threads u));
    }

pub owned_with_closure : (a : ArenaView) (t : ClosureId) (v : Closure) → IsOwned a → MayBeClosure a (wide t.owner) v → IsOwned (with_closure a t v)
unfolding with_closure table_at closure_at cell_at thread_at HasClosure
owned_with_closure a t v own new =
    let b = with_closure a t v in
    let g = with_closure_grows a t v in
    record {
      tables = λ u. part_held (λ o. MayBeTable b (wide u.owner) (get_or o.tables u.place no_table)) (λ o. record o { closures = set o.closures t.place v }) a (wide t.owner) (wide u.owner) (λ e o q. q) (table_on a b (wide u.owner) (table_at a u) g (own.tables u));
      closures = λ u. part_held (λ o. u.place < length o.closures → MayBeClosure b (wide u.owner) (get_or o.closures u.place no_closure)) (λ o. record o { closures = set o.closures t.place v }) a (wide t.owner) (wide u.owner) (λ e o q l. set_held (λ x. MayBeClosure b (wide u.owner) x) o.closures t.place u.place v no_closure (q (omega (arith, l, length-set o.closures t.place v))) (subst (λ w. MayBeClosure b w v) (sym e) (closure_on a b (wide t.owner) v g new))) (λ l. closure_on a b (wide u.owner) (closure_at a u) g (own.closures u l));
      cells = λ u. part_held (λ o. MayHold b (wide u.owner) (get_or o.cells u.place Nil)) (λ o. record o { closures = set o.closures t.place v }) a (wide t.owner) (wide u.owner) (λ e o q. q) (hold_on a b (wide u.owner) (cell_at a u) g (own.cells u));
      threads = λ u. part_held (λ o. MayBeThread b (wide u.owner) (get_or o.threads u.place no_coroutine)) (λ o. record o { closures = set o.closures t.place v }) a (wide t.owner) (wide u.owner) (λ e o q. q) (thread_on a b (wide u.owner) (thread_at a u) g (own.threads u));
    }

pub owned_with_cell : (a : ArenaView) (t : CellId) (v : Value) → IsOwned a → MayHold a (wide t.owner) v → IsOwned (with_cell a t v)
unfolding with_cell table_at closure_at cell_at thread_at HasClosure
owned_with_cell a t v own new =
    let b = with_cell a t v in
    let g = with_cell_grows a t v in
    record {
      tables = λ u. part_held (λ o. MayBeTable b (wide u.owner) (get_or o.tables u.place no_table)) (λ o. record o { cells = set o.cells t.place v }) a (wide t.owner) (wide u.owner) (λ e o q. q) (table_on a b (wide u.owner) (table_at a u) g (own.tables u));
      closures = λ u. part_held (λ o. u.place < length o.closures → MayBeClosure b (wide u.owner) (get_or o.closures u.place no_closure)) (λ o. record o { cells = set o.cells t.place v }) a (wide t.owner) (wide u.owner) (λ e o q. q) (λ l. closure_on a b (wide u.owner) (closure_at a u) g (own.closures u l));
      cells = λ u. part_held (λ o. MayHold b (wide u.owner) (get_or o.cells u.place Nil)) (λ o. record o { cells = set o.cells t.place v }) a (wide t.owner) (wide u.owner) (λ e o q. set_held (λ x. MayHold b (wide u.owner) x) o.cells t.place u.place v Nil q (subst (λ w. MayHold b w v) (sym e) (hold_on a b (wide t.owner) v g new))) (hold_on a b (wide u.owner) (cell_at a u) g (own.cells u));
      threads = λ u. part_held (λ o. MayBeThread b (wide u.owner) (get_or o.threads u.place no_coroutine)) (λ o. record o { cells = set o.cells t.place v }) a (wide t.owner) (wide u.owner) (λ e o q. q) (thread_on a b (wide u.owner) (thread_at a u) g (own.threads u));
    }

pub owned_with_thread : (a : ArenaView) (t : ThreadId) (v : Thread) → IsOwned a → MayBeThread a (wide t.owner) v → IsOwned (with_thread a t v)
unfolding with_thread table_at closure_at cell_at thread_at HasClosure
owned_with_thread a t v own new =
    let b = with_thread a t v in
    let g = with_thread_grows a t v in
    record {
      tables = λ u. part_held (λ o. MayBeTable b (wide u.owner) (get_or o.tables u.place no_table)) (λ o. record o { threads = set o.threads t.place v }) a (wide t.owner) (wide u.owner) (λ e o q. q) (table_on a b (wide u.owner) (table_at a u) g (own.tables u));
      closures = λ u. part_held (λ o. u.place < length o.closures → MayBeClosure b (wide u.owner) (get_or o.closures u.place no_closure)) (λ o. record o { threads = set o.threads t.place v }) a (wide t.owner) (wide u.owner) (λ e o q. q) (λ l. closure_on a b (wide u.owner) (closure_at a u) g (own.closures u l));
      cells = λ u. part_held (λ o. MayHold b (wide u.owner) (get_or o.cells u.place Nil)) (λ o. record o { threads = set o.threads t.place v }) a (wide t.owner) (wide u.owner) (λ e o q. q) (hold_on a b (wide u.owner) (cell_at a u) g (own.cells u));
      threads = λ u. part_held (λ o. MayBeThread b (wide u.owner) (get_or o.threads u.place no_coroutine)) (λ o. record o { threads = set o.threads t.place v }) a (wide t.owner) (wide u.owner) (λ e o q. set_held (λ x. MayBeThread b (wide u.owner) x) o.threads t.place u.place v no_coroutine q (subst (λ w. MayBeThread b w v) (sym e) (thread_on a b (wide t.owner) v g new))) (thread_on a b (wide u.owner) (thread_at a u) g (own.threads u));
    }

pub owned_new_table : (a : ArenaView) (w : Owner) → IsOwned a → MayBeTable a w no_table → IsOwned (new_table a w)
unfolding new_table table_at closure_at cell_at thread_at HasClosure
owned_new_table a w own new =
    let b = new_table a w in
    let g = new_table_grows a w in
    record {
      tables = λ u. part_held (λ o. MayBeTable b (wide u.owner) (get_or o.tables u.place no_table)) (λ o. record o { tables = o.tables ++ no_table ∷ [] }) a w (wide u.owner) (λ e o q. push_held (λ x. MayBeTable b (wide u.owner) x) o.tables u.place no_table no_table q (subst (λ w. MayBeTable b w no_table) (sym e) (table_on a b w no_table g new))) (table_on a b (wide u.owner) (table_at a u) g (own.tables u));
      closures = λ u. part_held (λ o. u.place < length o.closures → MayBeClosure b (wide u.owner) (get_or o.closures u.place no_closure)) (λ o. record o { tables = o.tables ++ no_table ∷ [] }) a w (wide u.owner) (λ e o q. q) (λ l. closure_on a b (wide u.owner) (closure_at a u) g (own.closures u l));
      cells = λ u. part_held (λ o. MayHold b (wide u.owner) (get_or o.cells u.place Nil)) (λ o. record o { tables = o.tables ++ no_table ∷ [] }) a w (wide u.owner) (λ e o q. q) (hold_on a b (wide u.owner) (cell_at a u) g (own.cells u));
      threads = λ u. part_held (λ o. MayBeThread b (wide u.owner) (get_or o.threads u.place no_coroutine)) (λ o. record o { tables = o.tables ++ no_table ∷ [] }) a w (wide u.owner) (λ e o q. q) (thread_on a b (wide u.owner) (thread_at a u) g (own.threads u));
    }

pub owned_new_closure : (a : ArenaView) (w : Owner) (f : Closure) → IsOwned a → MayBeClosure a w f → IsOwned (new_closure a w f)
unfolding new_closure table_at closure_at cell_at thread_at HasClosure
owned_new_closure a w f own new =
    let b = new_closure a w f in
    let g = new_closure_grows a w f in
    record {
      tables = λ u. part_held (λ o. MayBeTable b (wide u.owner) (get_or o.tables u.place no_table)) (λ o. record o { closures = o.closures ++ f ∷ [] }) a w (wide u.owner) (λ e o q. q) (table_on a b (wide u.owner) (table_at a u) g (own.tables u));
      closures = λ u. part_held (λ o. u.place < length o.closures → MayBeClosure b (wide u.owner) (get_or o.closures u.place no_closure)) (λ o. record o { closures = o.closures ++ f ∷ [] }) a w (wide u.owner) (λ e o q. push_there (λ x. MayBeClosure b (wide u.owner) x) o.closures u.place f no_closure q (subst (λ w. MayBeClosure b w f) (sym e) (closure_on a b w f g new))) (λ l. closure_on a b (wide u.owner) (closure_at a u) g (own.closures u l));
      cells = λ u. part_held (λ o. MayHold b (wide u.owner) (get_or o.cells u.place Nil)) (λ o. record o { closures = o.closures ++ f ∷ [] }) a w (wide u.owner) (λ e o q. q) (hold_on a b (wide u.owner) (cell_at a u) g (own.cells u));
      threads = λ u. part_held (λ o. MayBeThread b (wide u.owner) (get_or o.threads u.place no_coroutine)) (λ o. record o { closures = o.closures ++ f ∷ [] }) a w (wide u.owner) (λ e o q. q) (thread_on a b (wide u.owner) (thread_at a u) g (own.threads u));
    }

pub owned_new_cell : (a : ArenaView) (w : Owner) (v : Value) → IsOwned a → MayHold a w v → IsOwned (new_cell a w v)
unfolding new_cell table_at closure_at cell_at thread_at HasClosure
owned_new_cell a w v own new =
    let b = new_cell a w v in
    let g = new_cell_grows a w v in
    record {
      tables = λ u. part_held (λ o. MayBeTable b (wide u.owner) (get_or o.tables u.place no_table)) (λ o. record o { cells = o.cells ++ v ∷ [] }) a w (wide u.owner) (λ e o q. q) (table_on a b (wide u.owner) (table_at a u) g (own.tables u));
      closures = λ u. part_held (λ o. u.place < length o.closures → MayBeClosure b (wide u.owner) (get_or o.closures u.place no_closure)) (λ o. record o { cells = o.cells ++ v ∷ [] }) a w (wide u.owner) (λ e o q. q) (λ l. closure_on a b (wide u.owner) (closure_at a u) g (own.closures u l));
      cells = λ u. part_held (λ o. MayHold b (wide u.owner) (get_or o.cells u.place Nil)) (λ o. record o { cells = o.cells ++ v ∷ [] }) a w (wide u.owner) (λ e o q. push_held (λ x. MayHold b (wide u.owner) x) o.cells u.place v Nil q (subst (λ w. MayHold b w v) (sym e) (hold_on a b w v g new))) (hold_on a b (wide u.owner) (cell_at a u) g (own.cells u));
      threads = λ u. part_held (λ o. MayBeThread b (wide u.owner) (get_or o.threads u.place no_coroutine)) (λ o. record o { cells = o.cells ++ v ∷ [] }) a w (wide u.owner) (λ e o q. q) (thread_on a b (wide u.owner) (thread_at a u) g (own.threads u));
    }

pub owned_new_thread : (a : ArenaView) (w : Owner) (body : Value) → IsOwned a → MayBeThread a w (new_coroutine body) → IsOwned (new_thread a w body)
unfolding new_thread table_at closure_at cell_at thread_at HasClosure
owned_new_thread a w body own new =
    let b = new_thread a w body in
    let g = new_thread_grows a w body in
    record {
      tables = λ u. part_held (λ o. MayBeTable b (wide u.owner) (get_or o.tables u.place no_table)) (λ o. record o { threads = o.threads ++ (new_coroutine body) ∷ [] }) a w (wide u.owner) (λ e o q. q) (table_on a b (wide u.owner) (table_at a u) g (own.tables u));
      closures = λ u. part_held (λ o. u.place < length o.closures → MayBeClosure b (wide u.owner) (get_or o.closures u.place no_closure)) (λ o. record o { threads = o.threads ++ (new_coroutine body) ∷ [] }) a w (wide u.owner) (λ e o q. q) (λ l. closure_on a b (wide u.owner) (closure_at a u) g (own.closures u l));
      cells = λ u. part_held (λ o. MayHold b (wide u.owner) (get_or o.cells u.place Nil)) (λ o. record o { threads = o.threads ++ (new_coroutine body) ∷ [] }) a w (wide u.owner) (λ e o q. q) (hold_on a b (wide u.owner) (cell_at a u) g (own.cells u));
      threads = λ u. part_held (λ o. MayBeThread b (wide u.owner) (get_or o.threads u.place no_coroutine)) (λ o. record o { threads = o.threads ++ (new_coroutine body) ∷ [] }) a w (wide u.owner) (λ e o q. push_held (λ x. MayBeThread b (wide u.owner) x) o.threads u.place (new_coroutine body) no_coroutine q (subst (λ w. MayBeThread b w (new_coroutine body)) (sym e) (thread_on a b w (new_coroutine body) g new))) (thread_on a b (wide u.owner) (thread_at a u) g (own.threads u));
    }

-- ---- tables

abbrev Held : ArenaView → Owner → Entries → Type 0
Held a w es = AllByRecursion (λ (e : Value × Value). MayHold a w e.0 × MayHold a w e.1) es

-- a value that is written, and its key, may be held
pub table_written : (a : ArenaView) (w : Owner) (es : Entries) (key v : Value) → Held a w es → MayHold a w key → MayHold a w v → Held a w (put es key v)
table_written a w [] key v h k l = by (is_nil v)
  where
    by : (b : Bool) → Held a w (cond b [] ((key, v) ∷ []))
    by true = tt
    by false = ((k, l), tt)
table_written a w (e ∷ es) key v h k l = by (same key e.0) (table_written a w es key v h.1 k l)
  where
    by : (b : Bool) → Held a w (put es key v) → Held a w (cond b ((e.0, v) ∷ es) (e ∷ put es key v))
    by true rest = ((h.0.0, l), h.1)
    by false rest = (h.0, rest)
