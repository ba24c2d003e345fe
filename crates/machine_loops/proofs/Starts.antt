-- What a generic loop asks, by cases of the values.
use Rattle.std.proofs.Common.{◌≡◌, ◌⊎◌, inl, inr, List, [], ◌∷◌, refl, sym, ◌∙◌, ap, subst}
use Rattle.value_model.specs.Errors.{IterateOver}
use Rattle.value_model.specs.Loops as loops
use Rattle.value_model.specs.Metamethods.{metamethod}
use Rattle.std.specs.Prelude.{codes}
use Rattle.value_model.specs.Parts.{meant, meant_error, table_ref}
use Rattle.value_model.specs.Store.{Store}
use Rattle.value_model.specs.Values as m
use Rattle.value_model.specs.Values.{Bytes, TableRef, kind_of}
use Rattle.value_model.specs.declared.builtin.Builtin.{Builtin}
use Rattle.value_model.specs.declared.builtin.Builtin.TheVariants as builtin
use Rattle.value_model.specs.declared.error.RunErr.TheVariants as err
use Rattle.value_model.specs.declared.ids.ClosureId.{ClosureId}
use Rattle.value_model.specs.declared.ids.HostId.{HostId}
use Rattle.value_model.specs.declared.ids.TableId.{TableId}
use Rattle.value_model.specs.declared.ids.ThreadId.{ThreadId}
use Rattle.value_model.specs.declared.kind.Kind.{Kind}
use Rattle.value_model.specs.declared.value.Value.{Value}
use Rattle.value_model.specs.declared.value.Value.TheVariants as value

-- a table without `__iter` and `__call`
pub next_asked : (texts : List Bytes) (t : TableId) (call : Value) (u v : m.Value) → call ≡ value.Nil
    → loops.Generates (meant texts (value.Native builtin.Next)) (meant texts (value.Table t)) (meant texts value.Nil)
    ≡ loops.over_table (meant texts call) (table_ref t) u v
unfolding meant
next_asked texts t call u v e = sym (ap (λ c. loops.over_table (meant texts c) (table_ref t) u v) e)

-- one that can be called
pub table_asked : (texts : List Bytes) (t : TableId) (call : Value) (u v : m.Value) → (call ≡ value.Nil → ⊥)
    → loops.Generates (meant texts (value.Table t)) u v ≡ loops.over_table (meant texts call) (table_ref t) u v
unfolding meant
table_asked texts t value.Nil u v other = absurd (other refl)
table_asked texts t (value.Bool b) u v other = refl
table_asked texts t (value.Num z) u v other = refl
table_asked texts t (value.Str x) u v other = refl
table_asked texts t (value.Table x) u v other = refl
table_asked texts t (value.Closure x) u v other = refl
table_asked texts t (value.Native x) u v other = refl
table_asked texts t (value.Host x) u v other = refl
table_asked texts t (value.Wrap x) u v other = refl
table_asked texts t (value.Thread x) u v other = refl

-- without `__iter`
pub over_nil : (texts : List Bytes) (iter : Value) (c : m.Value) (r : TableRef) (u v : m.Value) → iter ≡ value.Nil
    → loops.over_table c r u v ≡ loops.over (meant texts iter) c r u v
unfolding meant
over_nil texts iter c r u v e = sym (ap (λ i. loops.over (meant texts i) c r u v) e)

-- with it
pub over_iter : (texts : List Bytes) (iter : Value) (c : m.Value) (t : TableId) (u v : m.Value) → (iter ≡ value.Nil → ⊥)
    → loops.CallsIter (meant texts iter) (meant texts (value.Table t) ∷ []) ≡ loops.over (meant texts iter) c (table_ref t) u v
unfolding meant
over_iter texts value.Nil c t u v other = absurd (other refl)
over_iter texts (value.Bool b) c t u v other = refl
over_iter texts (value.Num z) c t u v other = refl
over_iter texts (value.Str x) c t u v other = refl
over_iter texts (value.Table x) c t u v other = refl
over_iter texts (value.Closure x) c t u v other = refl
over_iter texts (value.Native x) c t u v other = refl
over_iter texts (value.Host x) c t u v other = refl
over_iter texts (value.Wrap x) c t u v other = refl
over_iter texts (value.Thread x) c t u v other = refl

-- a function asks itself
abbrev pub IsFunction : Value → Type 0
IsFunction g =
    ((x : ClosureId) × (g ≡ value.Closure x)) ⊎ ((x : Builtin) × (g ≡ value.Native x)) ⊎ ((x : HostId) × (g ≡ value.Host x)) ⊎ ((x : ThreadId) × (g ≡ value.Wrap x))

module _ (texts : List Bytes) (s : Store) (u v : m.Value) where
  abbrev Asks : Value → Type 0
  Asks g = loops.Generates (meant texts g) u v ≡ loops.iteration s (meant texts g) u v

  closure_asked : (x : ClosureId) → Asks (value.Closure x)
  unfolding meant loops.iteration
  closure_asked x = refl

  native_asked : (x : Builtin) → Asks (value.Native x)
  unfolding meant loops.iteration
  native_asked x = refl

  host_asked : (x : HostId) → Asks (value.Host x)
  unfolding meant loops.iteration
  host_asked x = refl

  wrap_asked : (x : ThreadId) → Asks (value.Wrap x)
  unfolding meant loops.iteration
  wrap_asked x = refl

  pub function_asked : (g : Value) → IsFunction g → Asks g
  function_asked g (inl h) = subst Asks (sym h.1) (closure_asked h.0)
  function_asked g (inr (inl h)) = subst Asks (sym h.1) (native_asked h.0)
  function_asked g (inr (inr (inl h))) = subst Asks (sym h.1) (host_asked h.0)
  function_asked g (inr (inr (inr h))) = subst Asks (sym h.1) (wrap_asked h.0)

  -- any other value is a run error
  pub nothing_asked : (g : Value) (k : Kind) → ((x : TableId) → g ≡ value.Table x → ⊥) → ((x : ClosureId) → g ≡ value.Closure x → ⊥)
      → ((x : Builtin) → g ≡ value.Native x → ⊥) → ((x : HostId) → g ≡ value.Host x → ⊥) → ((x : ThreadId) → g ≡ value.Wrap x → ⊥)
      → kind_of (meant texts g) ≡ k → loops.NotIterable (meant_error texts (err.IterateOver k)) ≡ loops.iteration s (meant texts g) u v
  unfolding meant meant_error loops.iteration
  nothing_asked value.Nil k t c n h w e = ap (λ k. loops.NotIterable (IterateOver k)) (sym e)
  nothing_asked (value.Bool b) k t c n h w e = ap (λ k. loops.NotIterable (IterateOver k)) (sym e)
  nothing_asked (value.Num z) k t c n h w e = ap (λ k. loops.NotIterable (IterateOver k)) (sym e)
  nothing_asked (value.Str x) k t c n h w e = ap (λ k. loops.NotIterable (IterateOver k)) (sym e)
  nothing_asked (value.Thread x) k t c n h w e = ap (λ k. loops.NotIterable (IterateOver k)) (sym e)
  nothing_asked (value.Table x) k t c n h w e = absurd (t x refl)
  nothing_asked (value.Closure x) k t c n h w e = absurd (c x refl)
  nothing_asked (value.Native x) k t c n h w e = absurd (n x refl)
  nothing_asked (value.Host x) k t c n h w e = absurd (h x refl)
  nothing_asked (value.Wrap x) k t c n h w e = absurd (w x refl)

  -- a table asks by what its metatable says
  pub by_metatable : (t : TableId) (iter call : Value) → meant texts iter ≡ metamethod s (meant texts (value.Table t)) (codes "__iter")
      → meant texts call ≡ metamethod s (meant texts (value.Table t)) (codes "__call")
      → loops.over (meant texts iter) (meant texts call) (table_ref t) u v ≡ loops.iteration s (meant texts (value.Table t)) u v
  unfolding meant loops.iteration
  by_metatable t iter call e d = ap (λ i. loops.over i (meant texts call) (table_ref t) u v) e
      ∙ ap (λ c. loops.over (metamethod s (m.Table (table_ref t)) (codes "__iter")) c (table_ref t) u v) d
