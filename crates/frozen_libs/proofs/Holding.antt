-- What an arena holds as tables are made, written and frozen, and as texts come.
use Rattle.std.proofs.Common.{◌≡◌, ℕ, ◌<◌, ◌≤◌, true, false, List, [], ◌∷◌, ◌++◌, map, length, get_or, set, refl, sym, ◌∙◌, ap, subst, arith}
use Rattle.std.proofs.lemmas.List.{length-map, length-set, length-append, map-append, map-set}
use lib.ListN.{get_or-map}
use Rattle.byte_text.specs.Texts.{AreDistinct}
use Rattle.value_model.specs.Fresh.{fixed}
use Rattle.value_model.specs.Owners.{wide}
use Rattle.value_model.specs.Parts.{meant}
use Rattle.value_model.specs.Store.{TableOf, empty_table}
use Rattle.value_model.specs.Tables as model
use Rattle.value_model.specs.Values.{Bytes}
use Rattle.value_model.specs.declared.ids.Owner.TheVariants as owner
use Rattle.value_model.specs.declared.ids.ShortOwner.TheVariants.{Frozen}
use Rattle.value_model.specs.declared.ids.TableId.{TableId}
use Rattle.value_model.specs.declared.value.Value.{Value}
use Rattle.value_arena.specs.Tables.{TableView, no_table}
use Rattle.value_arena.specs.Arenas.{ArenaView, HasTable, no_arena, objects_of, with_objects, table_at, with_table, new_table, next_table}
use Rattle.value_arena.proofs.Growing as growing
use Rattle.value_arena.proofs.Laws.{table_now}
use Rattle.luau_tables.specs.Part.{table_of, IsOfScript, OfTable}
use Rattle.luau_tables.specs.Rules as rule
use Rattle.luau_tables.specs.Worlds.{Extends}
use Rattle.luau_tables.proofs.MoreTexts.{extends_self}
use Rattle.luau_tables.proofs.TablesKept.{put_holds, put_kept}
use Rattle.frozen_libs.specs.Made.{arena_of, tables_in, shared_id, IsShared, Holds, IsOpen}
use Rattle.frozen_libs.proofs.Shared.{shared_more, shared_seen, table_on, each_set, each_pushed, tables_more}

-- ---- arenas with nothing but such tables

arena_made : (ts : List TableView) → new_table (arena_of ts) owner.Frozen ≡ arena_of (ts ++ no_table ∷ [])
unfolding new_table
arena_made ts = refl

id_made : (ts : List TableView) → next_table (arena_of ts) owner.Frozen ≡ shared_id (length ts)
unfolding next_table
id_made ts = refl

arena_written : (ts : List TableView) (t : TableId) (v : TableView) → t.owner ≡ Frozen → with_table (arena_of ts) t v ≡ arena_of (set ts t.place v)
unfolding with_table
arena_written ts t v e = ap (λ s. with_objects (arena_of ts) (wide s) (record (objects_of (arena_of ts) (wide s)) {
  tables = set (objects_of
      (arena_of ts) (wide s)).tables t.place v;
})) e

table_read : (ts : List TableView) (t : TableId) → t.owner ≡ Frozen → table_at (arena_of ts) t ≡ get_or ts t.place no_table
unfolding table_at
table_read ts t e = ap (λ s. get_or (objects_of (arena_of ts) (wide s)).tables t.place no_table) e

pub table_there : (ts : List TableView) (t : TableId) → t.owner ≡ Frozen → t.place < length ts → HasTable (arena_of ts) t
unfolding HasTable
table_there ts t e h = subst (λ s. t.place < length (objects_of (arena_of ts) (wide s)).tables) (sym e) h

pub there_table : (ts : List TableView) (t : TableId) → t.owner ≡ Frozen → HasTable (arena_of ts) t → t.place < length ts
unfolding HasTable
there_table ts t e h = subst (λ s. t.place < length (objects_of (arena_of ts) (wide s)).tables) e h

-- ---- what is held

put_unmarked : (t : TableView) (key v : Value) → (rule.put t key v).is_marked ≡ t.is_marked
unfolding rule.put
put_unmarked t key v = refl

make_holds : (texts : List Bytes) (b : ArenaView) (vs : List TableView) (ms : List TableOf) → b ≡ arena_of vs → map (table_of texts) vs ≡ ms →
    ((i : ℕ) → OfTable (IsShared texts (length ms)) (get_or vs i no_table)) → ((i : ℕ) → (get_or vs i no_table).is_marked ≡ false) → Holds texts b ms
make_holds texts b vs ms e m h u =
    let inside : tables_in b ≡ vs = ap tables_in e in
    record {
      arena = e ∙ ap arena_of (sym inside);
      tables = ap (λ vs. map (table_of texts) vs) inside ∙ m;
      values = λ i. subst (λ vs. OfTable (IsShared texts (length ms)) (get_or vs i no_table)) (sym inside) (h i);
      unmarked = λ i. subst (λ vs. (get_or vs i no_table).is_marked ≡ false) (sym inside) (u i);
    }

pub nothing_held : (texts : List Bytes) (a : ArenaView) → a ≡ no_arena → Holds texts a []
nothing_held texts a e = make_holds texts a [] [] e refl (λ i. record { entries = tt; meta = tt }) (λ i. refl)

module _ (texts : List Bytes) (a : ArenaView) (ms : List TableOf) (h : Holds texts a ms) where
  pub held_length : length (tables_in a) ≡ length ms
  held_length = sym (length-map (tables_in a) (table_of texts)) ∙ ap length h.tables

  -- ---- a table is made

  pub held_id : next_table a owner.Frozen ≡ shared_id (length ms)
  held_id = ap (λ a. next_table a owner.Frozen) h.arena ∙ id_made (tables_in a) ∙ ap shared_id held_length

  pub held_new : Holds texts (new_table a owner.Frozen) (ms ++ empty_table ∷ [])
  held_new =
      let l : length ms ≤ length (ms ++ empty_table ∷ []) = omega (arith, length-append ms (empty_table ∷ [])) in
      make_holds texts (new_table a owner.Frozen) (tables_in a ++ no_table ∷ []) (ms ++ empty_table ∷ [])
      (ap (λ a. new_table a owner.Frozen) h.arena ∙ arena_made (tables_in a))
      (map-append (table_of texts) (tables_in a) (no_table ∷ []) ∙ ap (λ xs. xs ++ empty_table ∷ []) h.tables)
      (λ i. each_pushed (OfTable (IsShared texts (length (ms ++ empty_table ∷ [])))) (tables_in a) (record { entries = tt; meta = tt })
      (λ j. table_on (IsShared texts (length ms)) (IsShared texts (length (ms ++ empty_table ∷ [])))
      (shared_more texts texts (length ms) (length (ms ++ empty_table ∷ [])) (extends_self texts) l)
      (get_or (tables_in a) j no_table) (h.values j)) i)
      (λ i. each_pushed (λ (x : TableView). x.is_marked ≡ false) (tables_in a) refl h.unmarked i)

  -- ---- a table is read

  module _ (t : TableId) (own : t.owner ≡ Frozen) where
    held_at : table_at a t ≡ get_or (tables_in a) t.place no_table
    held_at = ap (λ a. table_at a t) h.arena ∙ table_read (tables_in a) t own

    held_values : OfTable (IsShared texts (length ms)) (table_at a t)
    held_values = subst (OfTable (IsShared texts (length ms))) (sym held_at) (h.values t.place)

    pub held_table : table_of texts (table_at a t) ≡ get_or ms t.place empty_table
    held_table =
        ap (table_of texts) held_at ∙ sym (get_or-map (table_of texts) (tables_in a) t.place no_table)
        ∙ ap (λ xs. get_or xs t.place empty_table) h.tables

    -- ---- a table is changed

    mark_at : (table_at a t).is_marked ≡ false
    mark_at = ap (λ (x : TableView). x.is_marked) held_at ∙ h.unmarked t.place

    held_written : (v : TableView) (x : TableOf) → OfTable (IsShared texts (length ms)) v → table_of texts v ≡ x → v.is_marked ≡ (table_at a t).is_marked →
        Holds texts (with_table a t v) (set ms t.place x)
    held_written v x new e mark =
        make_holds texts (with_table a t v) (set (tables_in a) t.place v) (set ms t.place x)
        (ap (λ a. with_table a t v) h.arena ∙ arena_written (tables_in a) t v own)
        (map-set (table_of texts) (tables_in a) t.place v ∙ ap (λ xs. set xs t.place (table_of texts v)) h.tables ∙ ap (λ y. set ms t.place y) e)
        (λ i. subst (λ n. OfTable (IsShared texts n) (get_or (set (tables_in a) t.place v) i no_table)) (sym (length-set ms t.place x))
        (each_set (OfTable (IsShared texts (length ms))) (tables_in a) t.place v new h.values i))
        (λ i. each_set (λ (x : TableView). x.is_marked ≡ false) (tables_in a) t.place v (mark ∙ mark_at) h.unmarked i)

    pub held_put : (key v : Value) → AreDistinct texts → IsShared texts (length ms) key → IsShared texts (length ms) v →
        Holds texts (with_table a t (rule.put (table_at a t) key v))
        (set ms t.place (model.put (get_or ms t.place empty_table) (meant texts key) (meant texts v)))
    held_put key v d k l =
        held_written (rule.put (table_at a t) key v) (model.put (get_or ms t.place empty_table) (meant texts key) (meant texts v))
        (put_holds (IsShared texts (length ms)) (table_at a t) key v held_values k l)
        (sym (put_kept texts (owner.Script 0) d (table_at a t) key v
        (table_on (IsShared texts (length ms)) (IsOfScript texts (owner.Script 0)) (shared_seen texts (length ms) (owner.Script 0))
        (table_at a t) held_values)
        (shared_seen texts (length ms) (owner.Script 0) key k))
        ∙ ap (λ x. model.put x (meant texts key) (meant texts v)) held_table)
        (put_unmarked (table_at a t) key v)

    pub held_fixed : Holds texts (with_table a t (record (table_at a t) { is_frozen = true })) (set ms t.place (fixed (get_or ms t.place empty_table)))
    held_fixed =
        held_written (record (table_at a t) { is_frozen = true }) (fixed (get_or ms t.place empty_table))
        (record { entries = held_values.entries; meta = held_values.meta }) (ap fixed held_table) refl

-- ---- texts come

pub held_more : (texts more : List Bytes) (a : ArenaView) (ms : List TableOf) → Extends texts more → Holds texts a ms → Holds more a ms
held_more texts more a ms e h =
    record {
      arena = h.arena;
      tables = tables_more texts more (length ms) e (tables_in a) h.values ∙ h.tables;
      values = λ i. table_on (IsShared texts (length ms)) (IsShared more (length ms))
          (shared_more texts more (length ms) (length ms) e (omega arith)) (get_or (tables_in a) i no_table) (h.values i);
      unmarked = h.unmarked;
    }

-- ---- tables that can be written

pub held_open : (texts : List Bytes) (a : ArenaView) (ms : List TableOf) (t : TableId) (i : ℕ) → Holds texts a ms → t ≡ shared_id i → i < length ms →
    (get_or ms i empty_table).frozen ≡ false → IsOpen a t
held_open texts a ms t i h e l thawed =
    let own : t.owner ≡ Frozen = ap (λ (t : TableId). t.owner) e in
    let place : t.place ≡ i = ap (λ (t : TableId). t.place) e in
    record {
      owner = own;
      there = subst (λ a. HasTable a t) (sym h.arena) (table_there (tables_in a) t own (omega (arith, l, place, held_length texts a ms h)));
      thawed = ap (λ (x : TableOf). x.frozen) (held_table texts a ms h t own) ∙ ap (λ i. (get_or ms i empty_table).frozen) place ∙ thawed;
    }

pub open_new : (a : ArenaView) (t : TableId) → t ≡ next_table a owner.Frozen → HasTable (new_table a owner.Frozen) t → IsOpen (new_table a owner.Frozen) t
unfolding next_table
open_new a t e there =
    record {
      owner = ap (λ (t : TableId). t.owner) e;
      there = there;
      thawed = ap (λ t. (table_at (new_table a owner.Frozen) t).is_frozen) e
          ∙ ap (λ (x : TableView). x.is_frozen) (growing.new_table_at a owner.Frozen (subst (λ t. HasTable (new_table a owner.Frozen) t) e there));
    }

pub open_written : (a : ArenaView) (t : TableId) (v : TableView) → IsOpen a t → v.is_frozen ≡ (table_at a t).is_frozen → IsOpen (with_table a t v) t
open_written a t v h e =
    record {
      owner = h.owner;
      there = growing.table_stays a (with_table a t v) t (growing.with_table_grows a t v) h.there;
      thawed = ap (λ (x : TableView). x.is_frozen) (table_now a t v h.there) ∙ e ∙ h.thawed;
    }

pub put_thawed : (t : TableView) (key v : Value) → (rule.put t key v).is_frozen ≡ t.is_frozen
unfolding rule.put
put_thawed t key v = refl
