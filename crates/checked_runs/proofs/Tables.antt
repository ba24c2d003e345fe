-- Tables that instructions make and write, and what a generic loop goes over.
use Rattle.std.proofs.Common.{refl, sym, ℕ, suc, pos, List, [], ◌∷◌, Ok, Err, Result, append-nil, codes}
use Rattle.std.specs.Prelude.{IfOk}
use Rattle.value_model.specs.Values.{Value, Nil, Number, Table, Closure, Native, Host, Wrap, TableRef}
use Rattle.value_model.specs.Errors.{RunError}
use Rattle.value_model.specs.Store.{Store, TableOf, empty_table, table_at, with_table, next_table, with_new_table}
use Rattle.value_model.specs.CoroutineRows.{coroutine_of}
use Rattle.value_model.specs.Tables.{set as set_key}
use Rattle.value_model.specs.Metamethods.{metamethod}
use Rattle.value_model.specs.Loops.{iteration, over, over_table}
use Rattle.op_words.specs.Chunks.{ChunkOf, ProtoOf}
use Rattle.machine_meaning.specs.States.{Frame, World}
use Rattle.machine_meaning.specs.Moves.{store_of}
use Rattle.machine_meaning.specs.Effects.{set_list, stored, store_list, new_table}
use Rattle.checked_runs.specs.Places.{IsPlace}
use Rattle.checked_runs.specs.Safe.{Sizes, IsMade, AreMade, IsTable, IsStore, IsSafeMove}
use Rattle.checked_runs.specs.Keeps.{Keeps}
use Rattle.checked_runs.proofs.Elements.{each_append}
use Rattle.checked_runs.proofs.Settings.{Setting, goes, faults, gives}
use Rattle.checked_runs.proofs.Outcomes.{setting_kept}
use Rattle.checked_runs.proofs.Effects.{IterationIsMade}
use Rattle.checked_runs.proofs.Operations.{set_made, table_made, with_table_keeps, metamethod_made}

pub new_table_keeps : (n : ℕ) (s : Store) (t : TableOf) → IsStore n s → IsTable n t → Keeps n s (with_new_table s t) []
unfolding coroutine_of
new_table_keeps n s t is m = record {
  store =
      record { shared = is.shared; tables = each_append (IsTable n) s.tables (t ∷ []) is.tables (m, tt); coroutines = is.coroutines; some = is.some; running = is.running; main = is.main };
  environments = refl;
  running = refl;
  coroutines = sym (append-nil s.coroutines);
}

listed_made : (n : ℕ) (t : Result TableOf RunError) (key : ℕ) (vs : List Value) → IfOk t (IsTable n) → AreMade n vs
    → IfOk (set_list t key vs) (IsTable n)
listed_made n (Err e) key vs i m = tt
listed_made n (Ok t) key [] i m = i
listed_made n (Ok t) key (v ∷ vs) i m = listed_made n (set_key t (Number (pos key)) v) (suc key) vs (set_made n t (Number (pos key)) v i tt m.0) m.1

module _ {chunk : ChunkOf} {z : Sizes} {p : ProtoOf} {f : Frame} {fs : List Frame} {w : World} (s : Setting chunk z p f fs w) where
  pub makes_table : (to next : ℕ) → IsPlace p next → IsSafeMove chunk (new_table to next f fs w)
  makes_table to next h =
      gives (setting_kept (with_new_table (store_of w) empty_table) s (new_table_keeps z.functions (store_of w) empty_table s.world.store tt)) to
      (Table (next_table (store_of w))) next tt h

  stores : (t : Result TableOf RunError) (r : TableRef) (next : ℕ) → IfOk t (IsTable z.functions) → IsPlace p next
      → IsSafeMove chunk (stored t r next f fs w)
  stores (Ok t) r next i h =
      goes (setting_kept (with_table (store_of w) r t) s (with_table_keeps z.functions (store_of w) r t s.world.store i)) next h
  stores (Err e) r next i h = faults s e

  pub stores_list : (v : Value) (key : ℕ) (vs : List Value) (next : ℕ) → AreMade z.functions vs → IsPlace p next
      → IsSafeMove chunk (store_list v key vs next f fs w)
  stores_list (Table r) key vs next i h =
      stores _ r next (listed_made z.functions (Ok (table_at (store_of w) r)) key vs (table_made z.functions (store_of w) r s.world.store) i) h
  stores_list v key vs next i h = faults s _

  over_table_made : (call : Value) (t : TableRef) (state control : Value) → IsMade z.functions state → IsMade z.functions control
      → IterationIsMade s (over_table call t state control)
  over_table_made Nil t state control i j = (tt, tt, tt)
  over_table_made call t state control i j = (tt, i, j)

  over_made : (iter call : Value) (t : TableRef) (state control : Value) → IsMade z.functions iter → IsMade z.functions state
      → IsMade z.functions control → IterationIsMade s (over iter call t state control)
  over_made Nil call t state control k i j = over_table_made call t state control i j
  over_made iter call t state control k i j = (k, (tt, tt))

  pub iteration_made : (g state control : Value) → IsMade z.functions g → IsMade z.functions state → IsMade z.functions control
      → IterationIsMade s (iteration (store_of w) g state control)
  unfolding iteration
  iteration_made (Table t) state control k i j =
      over_made (metamethod (store_of w) (Table t) (codes "__iter")) _ t state control
      (metamethod_made z.functions (store_of w) (Table t) (codes "__iter") s.world.store) i j
  iteration_made (Closure g) state control k i j = (k, i, j)
  iteration_made (Native g) state control k i j = (k, i, j)
  iteration_made (Host g) state control k i j = (k, i, j)
  iteration_made (Wrap g) state control k i j = (k, i, j)
  iteration_made v state control k i j = tt
