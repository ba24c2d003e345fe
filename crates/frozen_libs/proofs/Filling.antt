-- Tables of nobody are made, filled and frozen.
use Rattle.std.proofs.Common.{◌≡◌, ℕ, ◌+◌, ◌<◌, List, [], ◌∷◌, ◌++◌, map, take, length, get_or, set, Result, Ok, Err, IfOk, OnOk, Some, slice_get, refl, sym, ◌∙◌, ap, subst, arith, add-one}
use Rattle.std.proofs.lemmas.List.{set-set, get_or-set_same, map-append}
use Rattle.std.proofs.Math.Seq.{take-suc, get_or-append_seam, set-append_seam}
use Rattle.std.proofs.lemmas.Option.{get_or_from_slice_get}
use Rattle.value_model.specs.Fresh.{fixed}
use Rattle.value_model.specs.Parts.{meant, bytes_at}
use Rattle.value_model.specs.Store.{TableOf, empty_table}
use Rattle.value_model.specs.Tables as model
use Rattle.value_model.specs.Values as m
use Rattle.value_model.specs.Values.{Bytes}
use Rattle.value_model.specs.declared.builtin.Builtin.{Builtin}
use Rattle.value_model.specs.declared.ids.Owner.TheVariants as owner
use Rattle.value_model.specs.declared.ids.TableId.{TableId}
use Rattle.value_model.specs.declared.value.Value.{Value}
use Rattle.value_arena.specs.Arenas.{ArenaView, HasTable, new_table, next_table}
use Rattle.luau_tables.specs.Worlds.{Extends}
use Rattle.luau_tables.proofs.MoreTexts.{meant_more}
use Rattle.frozen_libs.specs.Functions.{Named, with_functions}
use Rattle.frozen_libs.specs.Made.{tables_in, shared_id, IsShared, Holds, IsOpen}
use Rattle.frozen_libs.proofs.Holding.{held_id, held_new, held_length, there_table, open_new}
use Rattle.frozen_libs.proofs.Shared.{shared_text}

-- ---- a new table

pub new_open : {E : Type 0} (a b : ArenaView) (r : Result TableId E) → OnOk r (b ≡ new_table a owner.Frozen) → IfOk r (λ t. t ≡ next_table a owner.Frozen) →
    IfOk r (λ t. HasTable b t) → IfOk r (λ t. IsOpen b t)
new_open a b (Ok t) made id there = subst (λ b. IsOpen b t) (sym made) (open_new a t id (subst (λ b. HasTable b t) made there))
new_open a b (Err e) made id there = tt

pub new_made : {E : Type 0} (a b : ArenaView) (r : Result TableId E) → OnOk r (b ≡ new_table a owner.Frozen) → IfOk r (λ t. t ≡ next_table a owner.Frozen) →
    (texts : List Bytes) (ts : List TableOf) → Holds texts a ts → IfOk r (λ t. (t ≡ shared_id (length ts)) × Holds texts b (ts ++ empty_table ∷ []))
new_made a b (Ok t) made id texts ts h = (id ∙ held_id texts a ts h, subst (λ b. Holds texts b (ts ++ empty_table ∷ [])) (sym made) (held_new texts a ts h))
new_made a b (Err e) made id texts ts h = tt

-- ---- a value under a name

pub named_means : (texts : List Bytes) (x : ℕ) (name : Bytes) → slice_get texts x ≡ Some name → bytes_at texts x ≡ name
named_means texts x name h = get_or_from_slice_get texts x name [] h

pub named_put : (texts more : List Bytes) (a : ArenaView) (ts : List TableOf) (p x : ℕ) (name : Bytes) (v : Value) → Extends texts more →
    slice_get more x ≡ Some name →
    IsShared texts (length ts) v →
    Holds more a (set ts p (model.put (get_or ts p empty_table) (m.Text (bytes_at more x)) (meant more v))) →
    Holds more a (set ts p (model.put (get_or ts p empty_table) (m.Text name) (meant texts v)))
named_put texts more a ts p x name v e at h k =
    subst (λ w. Holds more a (set ts p (model.put (get_or ts p empty_table) (m.Text name) w))) (meant_more texts more e v (shared_text texts (length ts) v h))
    (subst (λ n. Holds more a (set ts p (model.put (get_or ts p empty_table) (m.Text n) (meant more v)))) (named_means more x name at) k)

-- ---- functions, one after another

functions_behind : (t : TableOf) (fs gs : Named) → with_functions t (fs ++ gs) ≡ with_functions (with_functions t fs) gs
functions_behind t [] gs = refl
functions_behind t (f ∷ fs) gs = functions_behind (model.put t (m.Text f.0) (m.Native f.1)) fs gs

next_taken : {X : Type 0} (f : X → Bytes × Builtin) (xs : List X) (i : ℕ) (d : X) → i < length xs → (t : TableOf) →
    with_functions t (map f (take (i + 1) xs)) ≡ model.put (with_functions t (map f (take i xs))) (m.Text (f (get_or xs i d)).0) (m.Native (f
    (get_or xs i d)).1)
next_taken f xs i d h t =
    ap (λ n. with_functions t (map f (take n xs))) (add-one i)
    ∙ ap (λ ys. with_functions t (map f ys)) (take-suc xs i d h)
    ∙ ap (with_functions t) (map-append f (take i xs) (get_or xs i d ∷ []))
    ∙ functions_behind t (map f (take i xs)) (f (get_or xs i d) ∷ [])

open_within : (texts : List Bytes) (a : ArenaView) (ts : List TableOf) (t : TableId) → Holds texts a ts → IsOpen a t → t.place < length ts
open_within texts a ts t h o =
    omega (arith, there_table (tables_in a) t o.owner (subst (λ a. HasTable a t) h.arena o.there), held_length texts a ts h)

pub next_function : {X : Type 0} (xs : List X) (i : ℕ) (d : X) (f : X → Bytes × Builtin) → i < length xs → (texts more : List Bytes) (a b : ArenaView)
    (ts : List TableOf) (t : TableId) → Holds texts a ts → IsOpen a t → (name : Bytes) → name ≡ (f (get_or xs i d)).0 →
    ((us : List TableOf) → us ≡ set ts t.place (with_functions (get_or ts t.place empty_table) (map f (take i xs))) →
    Holds more b (set us t.place (model.put (get_or us t.place empty_table) (m.Text name) (m.Native (f (get_or xs i d)).1)))) →
    Holds more b (set ts t.place (with_functions (get_or ts t.place empty_table) (map f (take (i + 1) xs))))
next_function xs i d f l texts more a b ts t h o name is k =
    let y = with_functions (get_or ts t.place empty_table) (map f (take i xs)) in
    let put_in = λ (n : Bytes) (x : TableOf). model.put x (m.Text n) (m.Native (f (get_or xs i d)).1) in
    subst (λ us. Holds more b us)
    (set-set ts t.place y (put_in name (get_or (set ts t.place y) t.place empty_table))
    ∙ ap (λ x. set ts t.place (put_in name x)) (get_or-set_same ts t.place y empty_table (open_within texts a ts t h o))
    ∙ ap (λ n. set ts t.place (put_in n y)) is
    ∙ ap (λ x. set ts t.place x) (sym (next_taken f xs i d l (get_or ts t.place empty_table)))) (k (set ts t.place y) refl)

-- ---- a table of functions

pub filled : (ts : List TableOf) (p : ℕ) (f : TableOf → TableOf) → p ≡ length ts →
    set (set (ts ++ empty_table ∷ []) p (f (get_or (ts ++ empty_table ∷ []) p empty_table))) p
    (fixed (get_or (set (ts ++ empty_table ∷ []) p (f (get_or (ts ++ empty_table ∷ []) p empty_table))) p empty_table))
    ≡ ts ++ fixed (f empty_table) ∷ []
filled ts p f e =
    let first : set (ts ++ empty_table ∷ []) (length ts) (f (get_or (ts ++ empty_table ∷ []) (length ts) empty_table)) ≡ ts ++ f empty_table ∷ [] =
    ap (λ x. set (ts ++ empty_table ∷ []) (length ts) (f x)) (get_or-append_seam ts empty_table [] empty_table)
    ∙ set-append_seam ts empty_table [] (f empty_table) in
    ap (λ p. set (set (ts ++ empty_table ∷ []) p (f (get_or (ts ++ empty_table ∷ []) p empty_table))) p
    (fixed (get_or (set (ts ++ empty_table ∷ []) p (f (get_or (ts ++ empty_table ∷ []) p empty_table))) p empty_table))) e
    ∙ ap (λ us. set us (length ts) (fixed (get_or us (length ts) empty_table))) first
    ∙ ap (λ x. set (ts ++ f empty_table ∷ []) (length ts) (fixed x)) (get_or-append_seam ts (f empty_table) [] empty_table)
    ∙ set-append_seam ts (f empty_table) [] (fixed (f empty_table))
