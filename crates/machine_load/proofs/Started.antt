-- A script that has what it starts with: what its part of the arena means, and that it may run from there.
use Rattle.std.proofs.Common.{◌≡◌, ℕ, zero, suc, ◌+◌, ◌<◌, ◌≤◌, inl, inr, Bool, true, false, List, [], ◌∷◌, length, map, get_or, None, IfSome, refl, sym, ◌∙◌, ap, subst, arith, nat_eq}
use Rattle.std.proofs.lemmas.Bool.{eqb-true, eqb-false}
use Rattle.std.proofs.lemmas.Option.{get_or_from_slice_get, slice_get_within}
use Rattle.std.specs.Prelude.{codes, option_map}
use Rattle.value_model.specs.Owners.{wide}
use Rattle.value_model.specs.Parts.{meant, table_ref}
use Rattle.value_model.specs.Store as store
use Rattle.value_model.specs.Values as m
use Rattle.value_model.specs.Values.{Bytes}
use Rattle.value_model.specs.declared.ids.Owner.{Owner}
use Rattle.value_model.specs.declared.ids.Owner.TheVariants as owner
use Rattle.value_model.specs.declared.ids.ShortOwner.TheVariants.{Script}
use Rattle.value_model.specs.declared.ids.TableId.{TableId}
use Rattle.value_model.specs.declared.value.Value.TheVariants as value
use Rattle.value_arena.specs.Arenas.{ArenaView, HasTable, HasClosure, objects_of, with_objects, slot, narrow, table_at, closure_at, cell_at, thread_at}
use Rattle.value_arena.specs.Growing.{Grows}
use Rattle.value_arena.specs.Objects.{ObjectsView, no_objects, no_closure, no_coroutine}
use Rattle.value_arena.specs.Owning.{MayHold, MayBeTable, MayBeClosure, MayBeThread, IsOwned}
use Rattle.value_arena.specs.Tables.{no_table}
use Rattle.value_arena.proofs.Growing.{table_stays}
use Rattle.value_arena.proofs.Laws.{one_owner, wide_narrow, objects_now, objects_other}
use Rattle.value_arena.proofs.Owning.{hold_on, table_on, closure_on, thread_on}
use Rattle.luau_tables.specs.Own.{HasText, HasTextsInTable, HasTexts, IsOwn}
use Rattle.luau_tables.specs.Globals.{globals_of}
use Rattle.luau_tables.specs.Part.{store_of, table_of, environment_of, coroutine_of, place_of_thread}
use Rattle.luau_tables.specs.declared.globals.Globals.{Globals}
use Rattle.luau_tables.proofs.OwnKept.{own_on, script_is}
use Rattle.machine_world.specs.Parts.{environment_id}
use Rattle.value_model.specs.Fresh.{empty_environment}
use Rattle.machine_load.specs.Beginning.{started, first_objects, main_id}

-- ---- each owner's objects

-- what holds of the new objects of one owner, and of the objects of all others, holds of each owner's
each_owner : (a : ArenaView) (w : Owner) (o : ObjectsView) (P : Owner → ObjectsView → Type 0) → slot w < length a.owners → P w o → ((u : Owner) → P u (objects_of a u))
    → (u : Owner) → P u (objects_of (with_objects a w o) u)
each_owner a w o P room here there u = by (nat_eq (slot u) (slot w)) refl
  where
    by : (same : Bool) → nat_eq (slot u) (slot w) ≡ same → P u (objects_of (with_objects a w o) u)
    by true e =
        let is : w ≡ u = sym (one_owner u w (eqb-true (slot u) (slot w) e)) in
        subst (λ v. P v (objects_of (with_objects a w o) v)) is (subst (P w) (sym (objects_now a w o room)) here)
    by false e = subst (P u) (sym (objects_other a w u o (λ same. eqb-false (slot u) (slot w) e (ap slot same)))) (there u)

module _ (texts : List Bytes) (g : Globals) (a : ArenaView) (n main : ℕ) (own : IsOwn texts g a (owner.Script n)) (room : n + 1 < length a.owners)
    (none : objects_of a (owner.Script n) ≡ no_objects) where
  abbrev w : Owner
  w = owner.Script n

  abbrev o : ObjectsView
  o = first_objects w g main

  abbrev b : ArenaView
  b = with_objects a w o

  pub own_now : objects_of b w ≡ o
  own_now = objects_now a w o room

  pub shared_now : objects_of b owner.Frozen ≡ objects_of a owner.Frozen
  shared_now = objects_other a w owner.Frozen o (script_is w tt)

  grows : Grows a b
  grows =
      record {
        tables = each_owner a w o (λ u x. length (objects_of a u).tables ≤ length x.tables) room (subst (λ (x : ObjectsView). length x.tables ≤ 2) (sym none)
            (omega arith)) (λ u. omega arith);
        closures = each_owner a w o (λ u x. length (objects_of a u).closures ≤ length x.closures) room
            (subst (λ (x : ObjectsView). length x.closures ≤ 1) (sym none) (omega arith)) (λ u. omega arith);
        cells = each_owner a w o (λ u x. length (objects_of a u).cells ≤ length x.cells) room (subst (λ (x : ObjectsView). length x.cells ≤ 0) (sym none)
            (omega arith)) (λ u. omega arith);
        threads = each_owner a w o (λ u x. length (objects_of a u).threads ≤ length x.threads) room
            (subst (λ (x : ObjectsView). length x.threads ≤ 1) (sym none) (omega arith)) (λ u. omega arith);
      }

  -- ---- what is there

  table_there : (i : ℕ) → i < 2 → HasTable b (record { owner = Script n; place = i })
  unfolding HasTable
  table_there i lt = subst (λ (x : ObjectsView). i < length x.tables) (sym own_now) lt

  pub main_there : HasClosure b (main_id w)
  unfolding HasClosure
  main_there = subst (λ (x : ObjectsView). 0 < length x.closures) (sym own_now) (omega arith)

  index_text : g.meta.index.0 < length texts
  index_text = slice_get_within texts g.meta.index.0 (codes "__index") own.globals.names.index

  -- ---- what the objects refer to

  first_table : (p : ℕ) → MayBeTable b w (get_or o.tables p no_table)
  first_table zero = (tt, (inl refl, table_there 1 (omega arith)))
  first_table (suc zero) = (((tt, (inr (ap wide own.globals.table_owner), table_stays a b g.table grows own.globals.table)), tt), tt)
  first_table (suc (suc p)) = (tt, tt)

  first_closure : (p : ℕ) → p < length o.closures → MayBeClosure b w (get_or o.closures p no_closure)
  first_closure zero lt = ((inl refl, table_there 0 (omega arith)), tt)
  first_closure (suc p) lt = absurd (omega (arith, lt))

  first_thread : (p : ℕ) → MayBeThread b w (get_or o.threads p no_coroutine)
  first_thread zero = ((inl refl, main_there), tt, tt)
  first_thread (suc p) = (tt, tt, tt)

  old_table : (u : Owner) (p : ℕ) → MayBeTable a u (get_or (objects_of a u).tables p no_table)
  unfolding table_at
  old_table u p = subst (λ v. MayBeTable a v (get_or (objects_of a v).tables p no_table)) (wide_narrow u)
      (own.owned.tables (record { owner = narrow u; place = p }))

  old_closure : (u : Owner) (p : ℕ) → p < length (objects_of a u).closures → MayBeClosure a u (get_or (objects_of a u).closures p no_closure)
  unfolding closure_at HasClosure
  old_closure u p =
      subst (λ v. p < length (objects_of a v).closures → MayBeClosure a v (get_or (objects_of a v).closures p no_closure)) (wide_narrow u)
      (own.owned.closures (record { owner = narrow u; place = p }))

  old_cell : (u : Owner) (p : ℕ) → MayHold a u (get_or (objects_of a u).cells p value.Nil)
  unfolding cell_at
  old_cell u p = subst (λ v. MayHold a v (get_or (objects_of a v).cells p value.Nil)) (wide_narrow u) (own.owned.cells (record { owner = narrow u; place = p }))

  old_thread : (u : Owner) (p : ℕ) → MayBeThread a u (get_or (objects_of a u).threads p no_coroutine)
  unfolding thread_at
  old_thread u p = subst (λ v. MayBeThread a v (get_or (objects_of a v).threads p no_coroutine)) (wide_narrow u)
      (own.owned.threads (record { owner = narrow u; place = p }))

  owned : IsOwned b
  unfolding table_at closure_at cell_at thread_at HasClosure
  owned =
      record {
        tables = λ t. each_owner a w o (λ u x. MayBeTable b u (get_or x.tables t.place no_table)) room (first_table t.place)
            (λ u. table_on a b u (get_or (objects_of a u).tables t.place no_table) grows (old_table u t.place)) (wide t.owner);
        closures = λ f. each_owner a w o (λ u x. f.place < length x.closures → MayBeClosure b u (get_or x.closures f.place no_closure)) room
            (first_closure f.place)
            (λ u lt. closure_on a b u (get_or (objects_of a u).closures f.place no_closure) grows (old_closure u f.place lt)) (wide f.owner);
        cells = λ c. each_owner a w o (λ u x. MayHold b u (get_or x.cells c.place value.Nil)) room tt
            (λ u. hold_on a b u (get_or (objects_of a u).cells c.place value.Nil) grows (old_cell u c.place)) (wide c.owner);
        threads = λ t. each_owner a w o (λ u x. MayBeThread b u (get_or x.threads t.place no_coroutine)) room (first_thread t.place)
            (λ u. thread_on a b u (get_or (objects_of a u).threads t.place no_coroutine) grows (old_thread u t.place)) (wide t.owner);
      }

  -- ---- their texts

  first_texts : (p : ℕ) → HasTextsInTable texts (get_or o.tables p no_table)
  first_texts zero = tt
  first_texts (suc zero) = ((index_text, tt), tt)
  first_texts (suc (suc p)) = tt

  first_body : (p : ℕ) → HasText texts (get_or o.threads p no_coroutine).body
  first_body zero = tt
  first_body (suc p) = tt

  first_failure : (p : ℕ) → IfSome (get_or o.threads p no_coroutine).failure (λ v. HasText texts v)
  first_failure zero = tt
  first_failure (suc p) = tt

  old_texts : (u : Owner) (p : ℕ) → HasTextsInTable texts (get_or (objects_of a u).tables p no_table)
  unfolding table_at
  old_texts u p = subst (λ v. HasTextsInTable texts (get_or (objects_of a v).tables p no_table)) (wide_narrow u)
      (own.numbered.tables (record { owner = narrow u; place = p }))

  old_held : (u : Owner) (p : ℕ) → HasText texts (get_or (objects_of a u).cells p value.Nil)
  unfolding cell_at
  old_held u p = subst (λ v. HasText texts (get_or (objects_of a v).cells p value.Nil)) (wide_narrow u)
      (own.numbered.cells (record { owner = narrow u; place = p }))

  old_body : (u : Owner) (p : ℕ) → HasText texts (get_or (objects_of a u).threads p no_coroutine).body
  unfolding thread_at
  old_body u p = subst (λ v. HasText texts (get_or (objects_of a v).threads p no_coroutine).body) (wide_narrow u)
      (own.numbered.bodies (record { owner = narrow u; place = p }))

  old_failure : (u : Owner) (p : ℕ) → IfSome (get_or (objects_of a u).threads p no_coroutine).failure (λ v. HasText texts v)
  unfolding thread_at
  old_failure u p = subst (λ v. IfSome (get_or (objects_of a v).threads p no_coroutine).failure (λ x. HasText texts x)) (wide_narrow u)
      (own.numbered.failures (record { owner = narrow u; place = p }))

  numbered : HasTexts texts b
  unfolding table_at cell_at thread_at
  numbered =
      record {
        tables = λ t. each_owner a w o (λ u x. HasTextsInTable texts (get_or x.tables t.place no_table)) room (first_texts t.place)
            (λ u. old_texts u t.place) (wide t.owner);
        cells = λ c. each_owner a w o (λ u x. HasText texts (get_or x.cells c.place value.Nil)) room tt (λ u. old_held u c.place) (wide c.owner);
        bodies = λ t. each_owner a w o (λ u x. HasText texts (get_or x.threads t.place no_coroutine).body) room (first_body t.place)
            (λ u. old_body u t.place) (wide t.owner);
        failures = λ t. each_owner a w o (λ u x. IfSome (get_or x.threads t.place no_coroutine).failure (λ v. HasText texts v)) room
            (first_failure t.place) (λ u. old_failure u t.place) (wide t.owner);
      }

  pub own_after : IsOwn texts g b w
  own_after = own_on texts g a b w own grows owned numbered shared_now refl

  -- ---- the script's part

  pub store_after : store_of texts g b w ≡ started (store_of texts g a w)
  unfolding store_of meant
  store_after =
      ap (λ (x : ObjectsView). part_with x (objects_of b w)) shared_now
      ∙ ap (λ (x : ObjectsView). part_with (objects_of a owner.Frozen) x) own_now
      ∙ ap (λ (name : Bytes). with_index name) (get_or_from_slice_get texts g.meta.index.0 (codes "__index") [] own.globals.names.index)
    where
      part_with : ObjectsView → ObjectsView → store.Store
      part_with shared mine =
          record {
            globals = globals_of texts g;
            shared = map (table_of texts) shared.tables;
            tables = map (table_of texts) mine.tables;
            closures = map environment_of mine.closures;
            coroutines = map (coroutine_of texts) mine.threads;
            running = option_map place_of_thread a.running;
          }

      with_index : Bytes → store.Store
      with_index name =
          record (started (store_of texts g a w)) {
            tables = empty_environment ∷ record { entries = (m.Text name, m.Table (table_ref g.table)) ∷ []; meta = None; frozen = true } ∷ [];
          }

  -- ---- marks

  module _ (unmarked : (t : TableId) → (table_at a t).is_marked ≡ false) where
    old_mark : (u : Owner) (p : ℕ) → (get_or (objects_of a u).tables p no_table).is_marked ≡ false
    unfolding table_at
    old_mark u p = subst (λ v. (get_or (objects_of a v).tables p no_table).is_marked ≡ false) (wide_narrow u)
        (unmarked (record { owner = narrow u; place = p }))

    pub marks_after : (t : TableId) → (table_at b t).is_marked ≡ true → (wide t.owner ≡ w) × (t.place ≡ 0)
    unfolding table_at
    marks_after t =
        each_owner a w o (λ u x. (get_or x.tables t.place no_table).is_marked ≡ true → (u ≡ w) × (t.place ≡ 0)) room
        (λ k. (refl, by t.place k))
        (λ u k. absurd (differ (sym (old_mark u t.place) ∙ k))) (wide t.owner)
      where
        differ : false ≡ true → ⊥
        differ e = absurd (cc)

        by : (p : ℕ) → (get_or o.tables p no_table).is_marked ≡ true → p ≡ 0
        by zero k = refl
        by (suc zero) k = absurd (cc)
        by (suc (suc p)) k = absurd (cc)

  pub mark_after : (table_at b (environment_id w)).is_marked ≡ true
  unfolding table_at
  mark_after = ap (λ (x : ObjectsView). (get_or x.tables 0 no_table).is_marked) own_now
