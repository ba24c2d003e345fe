-- No operation on values touches a coroutine.
use Rattle.std.proofs.Common.{◌≡◌, ℕ, zero, suc, Bool, true, false, [], ◌∷◌, Option, Some, None, refl}
use Rattle.std.specs.Prelude.{Result, Ok, Err, codes}
use Rattle.value_model.specs.Values.{Value, Nil, Table, TableRef, Shared, Own}
use Rattle.value_model.specs.Errors.{RunError, IndexChain, NewindexChain}
use Rattle.value_model.specs.Store.{Store, TableOf, table_at, with_table}
use Rattle.value_model.specs.Tables.{get, set}
use Rattle.value_model.specs.Choices.{Operation, Index, Newindex, Arith, Compare, Concat, Length, Callee, Outcome, CallThis, Errs, Choice}
use Rattle.value_model.specs.Metamethods.{is_function, metamethod, Link, chosen, by_index, index_found, index_asked, index_along, index, indexed_table, as_table, write_raw, by_newindex, newindex_found, newindex_asked, newindex_along, newindex, choose}

-- which coroutine runs, and all of them, are the same
pub record Unmoved (s s' : Store) : Type 0 where
  pub running : s'.running ≡ s.running
  pub coroutines : s'.coroutines ≡ s.coroutines

unmoved : (s : Store) → Unmoved s s
unmoved s = record { running = refl; coroutines = refl }

-- a link leads on so
abbrev LinkKeeps : Store → Link → Type 0
LinkKeeps s link = (n : ℕ) (v : Value) → Unmoved s (link n v).store

by_kind : (s : Store) (link : Link) → LinkKeeps s link → (asked : ℕ) (h : Value) (o : Outcome) (b : Bool)
    → Unmoved s (elim b as (λ b. Choice) [ true ↦ chosen s asked o | false ↦ link asked h ]).store
by_kind s link keeps asked h o true = unmoved s
by_kind s link keeps asked h o false = keeps asked h

by_index_keeps : (s : Store) (link : Link) → LinkKeeps s link → (asked : ℕ) (t : TableRef) (key h : Value) → Unmoved s (by_index s link asked t key h).store
by_index_keeps s link keeps asked t key Nil = unmoved s
by_index_keeps s link keeps asked t key h = by_kind s link keeps asked h (CallThis h (Table t ∷ key ∷ [])) (is_function h)

index_found_keeps : (s : Store) (link : Link) → LinkKeeps s link → (asked : ℕ) (t : TableRef) (key found : Value)
    → Unmoved s (index_found s link asked t key found).store
index_found_keeps s link keeps asked t key Nil = by_index_keeps s link keeps asked t key (metamethod s (Table t) (codes "__index"))
index_found_keeps s link keeps asked t key v = unmoved s

index_asked_keeps : (s : Store) (link : Link) → LinkKeeps s link → (asked : ℕ) (base key : Value) (o : Option TableRef)
    → Unmoved s (index_asked s link asked base key o).store
index_asked_keeps s link keeps asked base key None = unmoved s
index_asked_keeps s link keeps asked base key (Some t) =
    index_found_keeps s link keeps (suc asked) t key (get (table_at s t) key)

index_along_keeps : (links : ℕ) (s : Store) (key : Value) → LinkKeeps s (index_along links s key)
index_along_keeps zero s key asked base =
    index_asked_keeps s (λ n v. chosen s n (Errs IndexChain)) (λ n v. unmoved s) asked base key (indexed_table s base)
index_along_keeps (suc links) s key asked base =
    index_asked_keeps s (index_along links s key) (index_along_keeps links s key) asked base key (indexed_table s base)

-- a write changes a table alone
pub table_keeps : (s : Store) (t : TableRef) (x : TableOf) → Unmoved s (with_table s t x)
unfolding with_table
table_keeps s (Shared i) x = record { running = refl; coroutines = refl }
table_keeps s (Own i) x = record { running = refl; coroutines = refl }

write_raw_keeps : (s : Store) (asked : ℕ) (t : TableRef) (r : Result TableOf RunError) → Unmoved s (write_raw s asked t r).store
write_raw_keeps s asked t (Ok x) = table_keeps s t x
write_raw_keeps s asked t (Err e) = unmoved s

by_newindex_keeps : (s : Store) (link : Link) → LinkKeeps s link → (asked : ℕ) (t : TableRef) (key v h : Value)
    → Unmoved s (by_newindex s link asked t key v h).store
by_newindex_keeps s link keeps asked t key v Nil = write_raw_keeps s asked t (set (table_at s t) key v)
by_newindex_keeps s link keeps asked t key v h = by_kind s link keeps asked h (CallThis h (Table t ∷ key ∷ v ∷ [])) (is_function h)

newindex_found_keeps : (s : Store) (link : Link) → LinkKeeps s link → (asked : ℕ) (t : TableRef) (key v found : Value)
    → Unmoved s (newindex_found s link asked t key v found).store
newindex_found_keeps s link keeps asked t key v Nil =
    by_newindex_keeps s link keeps asked t key v (metamethod s (Table t) (codes "__newindex"))
newindex_found_keeps s link keeps asked t key v w = write_raw_keeps s asked t (set (table_at s t) key v)

newindex_asked_keeps : (s : Store) (link : Link) → LinkKeeps s link → (asked : ℕ) (base key v : Value) (o : Option TableRef)
    → Unmoved s (newindex_asked s link asked base key v o).store
newindex_asked_keeps s link keeps asked base key v None = unmoved s
newindex_asked_keeps s link keeps asked base key v (Some t) =
    newindex_found_keeps s link keeps (suc asked) t key v (get (table_at s t) key)

newindex_along_keeps : (links : ℕ) (s : Store) (key v : Value) → LinkKeeps s (newindex_along links s key v)
newindex_along_keeps zero s key v asked base =
    newindex_asked_keeps s (λ n w. chosen s n (Errs NewindexChain)) (λ n w. unmoved s) asked base key v (as_table base)
newindex_along_keeps (suc links) s key v asked base =
    newindex_asked_keeps s (newindex_along links s key v) (newindex_along_keeps links s key v) asked base key v (as_table base)

index_keeps : (s : Store) (base key : Value) → Unmoved s (index s base key).store
unfolding index
index_keeps s base key = index_along_keeps 100 s key 0 base

newindex_keeps : (s : Store) (base key v : Value) → Unmoved s (newindex s base key v).store
unfolding newindex
newindex_keeps s base key v = newindex_along_keeps 100 s key v 0 base

-- whatever the operation, the same coroutine runs, and all are as they were
pub choose_keeps : (o : Operation) (s : Store) → Unmoved s (choose o s).store
unfolding choose
choose_keeps (Index base key) s = index_keeps s base key
choose_keeps (Newindex base key v) s = newindex_keeps s base key v
choose_keeps (Arith o a b) s = unmoved s
choose_keeps (Compare o a b) s = unmoved s
choose_keeps (Concat a b) s = unmoved s
choose_keeps (Length a) s = unmoved s
choose_keeps (Callee f) s = unmoved s
