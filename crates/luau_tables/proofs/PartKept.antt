-- What an id names in a script's part is what it means in the arena, and what is written in the arena is written in the part.
use Rattle.std.proofs.Common.{◌≡◌, ℕ, ◌<◌, List, map, length, set, get_or, refl, sym, ◌∙◌, ap, subst}
use Rattle.std.proofs.lemmas.List.{map-set}
use Rattle.std.specs.Prelude.{option_map}
use lib.ListN.{get_or-map}
use Rattle.value_model.specs.Owners.{wide}
use Rattle.value_model.specs.Parts.{table_ref, by_owner}
use Rattle.value_model.specs.Store as store
use Rattle.value_model.specs.Values.{Bytes}
use Rattle.value_model.specs.Values as m
use Rattle.value_model.specs.declared.ids.Owner.{Owner}
use Rattle.value_model.specs.declared.ids.Owner.TheVariants as owner
use Rattle.value_model.specs.declared.ids.ShortOwner.{ShortOwner}
use Rattle.value_model.specs.declared.ids.ShortOwner.TheVariants.{Frozen, Script}
use Rattle.value_model.specs.declared.ids.TableId.{TableId}
use Rattle.value_arena.specs.Tables.{TableView, no_table}
use Rattle.value_arena.specs.Objects.{ObjectsView}
use Rattle.value_arena.specs.Arenas.{ArenaView, HasTable, objects_of, with_objects, table_at, with_table}
use Rattle.value_arena.proofs.Laws.{is_in, objects_now, objects_other}
use Rattle.luau_tables.specs.Part.{table_of, environment_of, coroutine_of, place_of_thread, store_of, IsSeen, IsScript}
use Rattle.luau_tables.specs.Globals.{globals_of}
use Rattle.luau_tables.specs.declared.globals.Globals.{Globals}

-- the table that an id names, by its owner and its place
placed : (texts : List Bytes) (g : Globals) (a : ArenaView) (w : Owner) (s : ShortOwner) (p : ℕ) → IsSeen w s → store.table_at (store_of texts g a w) (by_owner s p) ≡ table_of texts (get_or (objects_of a (wide s)).tables p no_table)
unfolding store_of store.table_at
placed texts g a w Frozen p h = get_or-map (table_of texts) (objects_of a owner.Frozen).tables p no_table
placed texts g a w (Script n) p h =
    get_or-map (table_of texts) (objects_of a w).tables p no_table
    ∙ ap (λ u. table_of texts (get_or (objects_of a u).tables p no_table)) (sym h)

pub table_at_kept : (texts : List Bytes) (g : Globals) (a : ArenaView) (w : Owner) (t : TableId) → IsSeen w t.owner → store.table_at (store_of texts g a w) (table_ref t) ≡ table_of texts (table_at a t)
unfolding table_at
table_at_kept texts g a w t h = placed texts g a w t.owner t.place h

-- ---- a table is written

-- the part of an arena, by the lists of its objects
abbrev part_of : (texts : List Bytes) (g : Globals) (a : ArenaView) (shared own : ObjectsView) → store.Store
part_of texts g a shared own =
    record {
      globals = globals_of texts g;
      shared = map (table_of texts) shared.tables;
      tables = map (table_of texts) own.tables;
      closures = map environment_of own.closures;
      coroutines = map (coroutine_of texts) own.threads;
      running = option_map place_of_thread a.running;
    }

abbrev with_set : ObjectsView → ℕ → TableView → ObjectsView
with_set o p v = record o { tables = set o.tables p v }

shared_written : (texts : List Bytes) (g : Globals) (a : ArenaView) (n p : ℕ) (v : TableView) → p < length (objects_of a owner.Frozen).tables → store_of texts g (with_table a (record { owner = Frozen; place = p }) v) (owner.Script n) ≡ store.with_table (store_of texts g a (owner.Script n)) (m.Shared p) (table_of texts v)
unfolding store_of store.with_table with_table
shared_written texts g a n p v h =
    let o = objects_of a owner.Frozen in
    let o' = with_set o p v in
    let b = with_objects a owner.Frozen o' in
    let own = objects_of a (owner.Script n) in
    ap (λ x. part_of texts g a x (objects_of b (owner.Script n))) (objects_now a owner.Frozen o' (is_in (λ o. length o.tables) refl a owner.Frozen p h))
    ∙ ap (λ y. part_of texts g a o' y) (objects_other a owner.Frozen (owner.Script n) o' (λ e. absurd (cc)))
    ∙ ap (λ l. record (part_of texts g a o own) { shared = l }) (map-set (table_of texts) o.tables p v)

own_written : (texts : List Bytes) (g : Globals) (a : ArenaView) (n p : ℕ) (v : TableView) → p < length (objects_of a (owner.Script n)).tables → store_of texts g (with_table a (record { owner = Script n; place = p }) v) (owner.Script n) ≡ store.with_table (store_of texts g a (owner.Script n)) (m.Own p) (table_of texts v)
unfolding store_of store.with_table with_table
own_written texts g a n p v h =
    let o = objects_of a (owner.Script n) in
    let o' = with_set o p v in
    let b = with_objects a (owner.Script n) o' in
    let shared = objects_of a owner.Frozen in
    ap (λ y. part_of texts g a (objects_of b owner.Frozen) y) (objects_now a (owner.Script n) o' (is_in (λ o. length o.tables) refl a (owner.Script n) p h))
    ∙ ap (λ x. part_of texts g a x o') (objects_other a (owner.Script n) owner.Frozen o' (λ e. absurd (cc)))
    ∙ ap (λ l. record (part_of texts g a shared o) { tables = l }) (map-set (table_of texts) o.tables p v)

written : (texts : List Bytes) (g : Globals) (a : ArenaView) (w : Owner) (s : ShortOwner) (p : ℕ) (v : TableView) → IsScript w → IsSeen w s → p < length (objects_of a (wide s)).tables → store_of texts g (with_table a (record { owner = s; place = p }) v) w ≡ store.with_table (store_of texts g a w) (by_owner s p) (table_of texts v)
written texts g a owner.Frozen Frozen p v i h l = elim i [ ]
written texts g a (owner.Script n) Frozen p v i h l = shared_written texts g a n p v l
written texts g a w (Script n) p v i h l =
    subst (λ w. store_of texts g (with_table a (record { owner = Script n; place = p }) v) w ≡ store.with_table (store_of texts g a w) (m.Own p) (table_of texts v)) h (own_written texts g a n p v l)

pub with_table_kept : (texts : List Bytes) (g : Globals) (a : ArenaView) (w : Owner) (t : TableId) (v : TableView) → IsScript w → IsSeen w t.owner → HasTable a t → store_of texts g (with_table a t v) w ≡ store.with_table (store_of texts g a w) (table_ref t) (table_of texts v)
unfolding HasTable
with_table_kept texts g a w t v i h l = written texts g a w t.owner t.place v i h l
