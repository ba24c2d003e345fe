-- Where a script starts from: what nobody owns.
use Rattle.std.proofs.Common.{◌≡◌, ℕ, zero, suc, ◌<◌, ◌≤◌, inr, true, false, List, [], ◌∷◌, map, length, get_or, Option, Some, None, IfSome, refl, sym, ◌∙◌, ap, subst, arith}
use Rattle.std.specs.List.{AllByRecursion}
use Rattle.std.specs.Prelude.{option_map}
use Rattle.value_model.specs.Fresh.{Built, store_with}
use Rattle.value_model.specs.Owners.{wide}
use Rattle.value_model.specs.Parts.{table_ref}
use Rattle.value_model.specs.Store as store
use Rattle.value_model.specs.Store.{TableOf, empty_table}
use Rattle.value_model.specs.Values as m
use Rattle.value_model.specs.Values.{Bytes}
use Rattle.value_model.specs.declared.ids.Owner.{Owner}
use Rattle.value_model.specs.declared.ids.Owner.TheVariants as owner
use Rattle.value_model.specs.declared.ids.ShortOwner.{ShortOwner}
use Rattle.value_model.specs.declared.ids.ShortOwner.TheVariants.{Frozen, Script}
use Rattle.value_model.specs.declared.ids.TableId.{TableId}
use Rattle.value_model.specs.declared.value.Value.{Value}
use Rattle.value_model.specs.declared.value.Value.TheVariants as value
use Rattle.value_arena.specs.Tables.{Entries, TableView, no_table}
use Rattle.value_arena.specs.Objects.{ObjectsView, no_objects, no_coroutine}
use Rattle.value_arena.specs.Arenas.{ArenaView, HasTable, HasClosure, no_arena, objects_of, table_at, closure_at, cell_at, thread_at}
use Rattle.value_arena.specs.Owning.{MayHold, MayBeTable, MayBeThread, IsOwned}
use Rattle.value_arena.proofs.Keeping.{none_of}
use Rattle.value_arena.proofs.Laws.{objects_other}
use Rattle.luau_tables.specs.Globals.{globals_of}
use Rattle.luau_tables.specs.Own.{AreTexts, HasText, HasTextsInTable, HasTexts, HasGlobals, SharesTables, IsOwn}
use Rattle.luau_tables.specs.Part.{table_of, store_of, environment_of, coroutine_of, place_of_thread, IsScript, OfPairs, OfSome, OfTable}
use Rattle.luau_tables.specs.declared.globals.Globals.{Globals}
use Rattle.frozen_libs.specs.Frozen.{unowned, Starts, IsUnowned}
use Rattle.frozen_libs.specs.Made.{arena_of, tables_in, IsShared, Holds, IsBuilt}
use Rattle.frozen_libs.proofs.Holding.{held_length, held_table, table_there, there_table}
use Rattle.frozen_libs.proofs.Shared.{table_texts}

-- ---- the objects of each owner

abbrev nobodys : List TableView → ObjectsView
nobodys vs = record no_objects { tables = vs }

scripts_objects : (vs : List TableView) (n : ℕ) → objects_of (arena_of vs) (owner.Script n) ≡ no_objects
scripts_objects vs n = objects_other no_arena owner.Frozen (owner.Script n) (nobodys vs) (λ e. absurd (cc)) ∙ none_of (owner.Script n)

-- each owner has no objects but tables
bare : (vs : List TableView) (P : ObjectsView → Type 0) → P (nobodys vs) → P no_objects → (w : Owner) → P (objects_of (arena_of vs) w)
bare vs P h k owner.Frozen = h
bare vs P h k (owner.Script n) = subst P (sym (scripts_objects vs n)) k

module _ (texts : List Bytes) (vs : List TableView) (h : (i : ℕ) → OfTable (IsShared texts (length vs)) (get_or vs i no_table)) where
  -- ---- what they refer to

  may_hold : (v : Value) → IsShared texts (length vs) v → MayHold (arena_of vs) owner.Frozen v
  may_hold (value.Table t) k = (inr (ap wide k.0), table_there vs t k.0 k.1)
  may_hold (value.Closure x) k = elim k [ ]
  may_hold (value.Wrap x) k = elim k [ ]
  may_hold (value.Thread x) k = elim k [ ]
  may_hold (value.Str x) k = tt
  may_hold value.Nil k = tt
  may_hold (value.Bool x) k = tt
  may_hold (value.Num x) k = tt
  may_hold (value.Native x) k = tt
  may_hold (value.Host x) k = tt

  pairs_held : (es : Entries) → OfPairs (IsShared texts (length vs)) es →
      AllByRecursion (λ e. MayHold (arena_of vs) owner.Frozen e.0 × MayHold (arena_of vs) owner.Frozen e.1) es
  pairs_held [] k = tt
  pairs_held (e ∷ es) k = ((may_hold e.0 k.0, may_hold e.1 k.1), pairs_held es k.2)

  meta_held : (r : Option TableId) → OfSome (λ t. IsShared texts (length vs) (value.Table t)) r →
      IfSome r (λ t. MayHold (arena_of vs) owner.Frozen (value.Table t))
  meta_held None k = tt
  meta_held (Some t) k = may_hold (value.Table t) k

  may_be : (s : ShortOwner) (p : ℕ) → MayBeTable (arena_of vs) (wide s) (get_or (objects_of (arena_of vs) (wide s)).tables p no_table)
  may_be Frozen p = (pairs_held (get_or vs p no_table).entries (h p).entries, meta_held (get_or vs p no_table).meta (h p).meta)
  may_be (Script n) p = subst (λ (o : ObjectsView). MayBeTable (arena_of vs) (owner.Script n) (get_or o.tables p no_table)) (sym
      (scripts_objects vs n)) (tt, tt)

  owned : IsOwned (arena_of vs)
  unfolding table_at closure_at cell_at thread_at HasClosure
  owned =
      record {
        tables = λ t. may_be t.owner t.place;
        closures = λ f k. absurd
            (bare vs (λ o. f.place < length o.closures → ⊥) (λ l. absurd (omega (arith, l))) (λ l. absurd (omega (arith, l))) (wide f.owner) k);
        cells = λ c. bare vs (λ o. MayHold (arena_of vs) (wide c.owner) (get_or o.cells c.place value.Nil)) tt tt (wide c.owner);
        threads = λ t. bare vs (λ o. MayBeThread (arena_of vs) (wide t.owner) (get_or o.threads t.place no_coroutine)) (tt, tt, tt) (tt, tt, tt)
            (wide t.owner);
      }

  numbered : HasTexts texts (arena_of vs)
  unfolding table_at cell_at thread_at
  numbered =
      record {
        tables = λ t. bare vs (λ o. HasTextsInTable texts (get_or o.tables t.place no_table)) (table_texts texts (length vs)
            (get_or vs t.place no_table) (h t.place)) tt
            (wide t.owner);
        cells = λ c. bare vs (λ o. HasText texts (get_or o.cells c.place value.Nil)) tt tt (wide c.owner);
        bodies = λ t. bare vs (λ o. HasText texts (get_or o.threads t.place no_coroutine).body) tt tt (wide t.owner);
        failures = λ t. bare vs (λ o. IfSome (get_or o.threads t.place no_coroutine).failure (λ v. HasText texts v)) tt tt (wide t.owner);
      }

-- ---- all that scripts share

all_at : (P : TableOf → Type 0) (ts : List TableOf) (i : ℕ) → AllByRecursion P ts → i < length ts → P (get_or ts i empty_table)
all_at P [] i h l = absurd (omega (arith, l))
all_at P (t ∷ ts) zero h l = h.0
all_at P (t ∷ ts) (suc i) h l = all_at P ts i h.1 (omega (arith, l))

module _ (texts : List Bytes) (g : Globals) (a : ArenaView) (b : Built) (h : IsBuilt texts a g b) (many : 2 ≤ length b.tables)
    (frozen : AllByRecursion (λ t. t.frozen ≡ true) b.tables) where
  abbrev views : List TableView
  views = tables_in a

  count : length views ≡ length b.tables
  count = held_length texts a b.tables h.holds

  values : (i : ℕ) → OfTable (IsShared texts (length views)) (get_or views i no_table)
  values i = subst (λ n. OfTable (IsShared texts n) (get_or views i no_table)) (sym count) (h.holds.values i)

  on_views : (P : ArenaView → Type 0) → P (arena_of views) → P a
  on_views P k = subst P (sym h.holds.arena) k

  globals : HasGlobals texts g a
  globals =
      record {
        table = on_views (λ a. HasTable a g.table) (table_there views g.table (ap (λ (t : TableId). t.owner) h.table) (omega (
          arith,
          count,
          many,
          ap
              (λ (t : TableId). t.place) h.table,
        )));
        table_owner = ap (λ (t : TableId). t.owner) h.table;
        string_meta = on_views (λ a. HasTable a g.string_meta) (table_there views g.string_meta (ap (λ (t : TableId). t.owner) h.string_meta) (omega
            (arith, count, many, ap (λ (t : TableId). t.place) h.string_meta)));
        string_meta_owner = ap (λ (t : TableId). t.owner) h.string_meta;
        names = h.names;
        paths = h.paths.numbers;
        hosts = h.hosts.numbers;
      }

  shared : SharesTables a
  shared =
      record {
        frozen = λ t own there. ap (λ (x : TableOf). x.frozen) (held_table texts a b.tables h.holds t own)
            ∙ all_at (λ x. x.frozen ≡ true) b.tables t.place frozen
            (omega (arith, count, there_table views t own (subst (λ a. HasTable a t) h.holds.arena there)));
        closures = ap (λ a. (objects_of a owner.Frozen).closures) h.holds.arena;
        threads = ap (λ a. (objects_of a owner.Frozen).threads) h.holds.arena;
      }

  built_own : AreTexts texts → (w : Owner) → IsScript w → IsOwn texts g a w
  built_own interned w script =
      record {
        script = script;
        interned = interned;
        owned = on_views IsOwned (owned texts views values);
        numbered = on_views (HasTexts texts) (numbered texts views values);
        globals = globals;
        shared = shared;
        running = on_views (λ a. IfSome a.running (λ t. MayHold a w (value.Thread t))) tt;
      }

  -- ---- what a script sees of it

  abbrev part_with : store.Globals → List TableOf → ObjectsView → Option ℕ → store.Store
  part_with globals shared own running =
      record {
        globals = globals;
        shared = shared;
        tables = map (table_of texts) own.tables;
        closures = map environment_of own.closures;
        coroutines = map (coroutine_of texts) own.threads;
        running = running;
      }

  abbrev globals_with : m.TableRef → m.TableRef → List (m.TableRef × Bytes) → List Bytes → store.Globals
  globals_with t s paths hosts = record { table = t; string_meta = s; paths = paths; hosts = hosts }

  nothing_own : (w : Owner) → IsScript w → objects_of a w ≡ no_objects
  nothing_own owner.Frozen k = elim k [ ]
  nothing_own (owner.Script n) k = ap (λ a. objects_of a (owner.Script n)) h.holds.arena ∙ scripts_objects views n

  built_part : (w : Owner) → IsScript w → store_of texts g a w ≡ unowned (store_with b)
  unfolding store_of
  built_part w script =
      ap (λ o. part_with (globals_of texts g) (map (table_of texts) views) o (option_map place_of_thread a.running)) (nothing_own w script)
      ∙ ap (λ (a : ArenaView). part_with (globals_of texts g) (map (table_of texts) views) no_objects (option_map place_of_thread a.running)) h.holds.arena
      ∙ ap (λ ts. part_with (globals_of texts g) ts no_objects None) h.holds.tables
      ∙ ap (λ x. part_with x b.tables no_objects None) same_globals
    where
      same_globals : globals_of texts g ≡ globals_with (m.Shared 0) (m.Shared 1) b.paths b.hosts
      same_globals =
          ap (λ t. globals_with (table_ref t) (table_ref g.string_meta) (globals_of texts g).paths (globals_of texts g).hosts) h.table
          ∙ ap (λ t. globals_with (m.Shared 0) (table_ref t) (globals_of texts g).paths (globals_of texts g).hosts) h.string_meta
          ∙ ap (λ ps. globals_with (m.Shared 0) (m.Shared 1) ps (globals_of texts g).hosts) h.paths.meaning
          ∙ ap (λ xs. globals_with (m.Shared 0) (m.Shared 1) b.paths xs) h.hosts.meaning

  pub built_starts : AreTexts texts → Starts texts g a (store_with b)
  built_starts interned = record { part = built_part; own = built_own interned }

-- no script owns anything, and no table is marked
unowned_of : (vs : List TableView) → ((i : ℕ) → (get_or vs i no_table).is_marked ≡ false) → IsUnowned (arena_of vs)
unfolding table_at
unowned_of vs u =
    record {
      scripts = λ w is. script_objects w is;
      cells = refl;
      running = refl;
      unmarked = λ t. bare vs (λ o. (get_or o.tables t.place no_table).is_marked ≡ false) (u t.place) refl (wide t.owner);
    }
  where
    script_objects : (w : Owner) → IsScript w → objects_of (arena_of vs) w ≡ no_objects
    script_objects owner.Frozen is = elim is [ ]
    script_objects (owner.Script n) is = scripts_objects vs n

pub unowned_after : (texts : List Bytes) (a : ArenaView) (ts : List TableOf) → Holds texts a ts → IsUnowned a
unowned_after texts a ts h = subst IsUnowned (sym h.arena) (unowned_of (tables_in a) h.unmarked)
