-- Rows that make a table.
use Rattle.std.proofs.Common.{◌≡◌, ℕ, zero, suc, ◌<◌, ◌≤◌, ℤ, pos, true, false, List, [], ◌∷◌, map, length, take, slice_get, Some, Result, Ok, Err, refl, sym, ◌∙◌, ap, subst}
use Rattle.std.proofs.Math.ListN.{replicate}
use Rattle.std.proofs.lemmas.List.{length-map}
use Rattle.std.proofs.lemmas.Option.{get_or_from_slice_get, slice_get_within}
use Rattle.std.specs.List.{AllByRecursion}
use Rattle.std.specs.Prelude.{nat_le, codes}
use Rattle.value_model.specs.Answers as model
use Rattle.value_model.specs.Parts.{meant, meant_error, table_ref, bytes_at}
use Rattle.value_model.specs.Store as store
use Rattle.value_model.specs.StringRows as string
use Rattle.value_model.specs.TableRows as rows
use Rattle.value_model.specs.Tables as tables
use Rattle.value_model.specs.Values as m
use Rattle.value_model.specs.Values.{Bytes}
use Rattle.value_model.specs.declared.ids.TableId.{TableId}
use Rattle.value_model.specs.declared.value.Value.{Value}
use Rattle.value_model.specs.declared.value.Value.TheVariants as value
use Rattle.value_arena.specs.Arenas.{ArenaView, HasTable, table_at, with_table, new_table, next_table}
use Rattle.value_arena.specs.Tables.{TableView, no_table, is_nil}
use Rattle.value_arena.proofs.Growing.{new_table_at}
use Rattle.luau_tables.specs.Part.{table_of, OfTable, IsOfScript}
use Rattle.luau_tables.specs.Worlds.{IsWorld, Keeps, MayUseIn, store_in}
use Rattle.luau_tables.specs.declared.globals.LibWorld.{LibWorld}
use Rattle.luau_tables.specs.Rules as rule
use Rattle.luau_tables.proofs.TablesKept.{put_holds, put_kept}
use Rattle.byte_text.specs.declared.fixed.StrId.{StrId}
use Rattle.luau_tables.proofs.NewTables.{new_table_written}
use Rattle.luau_tables.proofs.OwnKept.{changed_part}
use Rattle.luau_tables.proofs.OwnTables.{own_value}
use Rattle.luau_tables.proofs.WorldsKept.{keeps_on, may_use_on, all_use_on, new_table_keeps, new_table_store, new_table_use, new_table_is}
use Rattle.value_model.specs.declared.error.RunErr.TheVariants.{TooManyValues}
use Rattle.lib_arguments.specs.Checks.{Fails}
use Rattle.lib_arguments.specs.Rows.{Runs, Gives, LeavesStore}
use Rattle.lib_arguments.specs.declared.ending.Ending.{Ending}
use Rattle.lib_arguments.specs.declared.ending.Ending.TheVariants.{RunError}
use Rattle.lib_arguments.proofs.RowsRun.{gives_runs, each_map}
use Rattle.table_lists.specs.Lists.{put_all, Began}
use Rattle.table_lists.proofs.Kept as kept
use Rattle.lib_math_table.proofs.Lists.{few, many}
use Rattle.lib_math_table.proofs.Changes.{with_arena, changed_keeps}

map_replicate : (texts : List Bytes) (n : ℕ) (v : Value) → map (meant texts) (replicate n v) ≡ replicate n (meant texts v)
map_replicate texts zero v = refl
map_replicate texts (suc n) v = ap (λ vs. meant texts v ∷ vs) (map_replicate texts n v)

-- nil fills nothing
pub filled_none : (texts : List Bytes) (n : ℕ) (v : Value) → is_nil v ≡ true → rows.filled_table n (meant texts v) ≡ store.empty_table
unfolding meant
filled_none texts n value.Nil h = refl
filled_none texts n _ h = absurd (cc)

pub filled_some : (texts : List Bytes) (n : ℕ) (v : Value) → is_nil v ≡ false → rows.filled_table n (meant texts v) ≡ tables.put_all store.empty_table (pos 1) (replicate n (meant texts v))
unfolding meant
filled_some texts n value.Nil h = absurd (cc)
filled_some texts n _ h = refl

abbrev pub with_new : LibWorld → LibWorld
with_new w = with_arena w (new_table w.arena w.owner)

-- the world with a new table
abbrev pub made : LibWorld → TableView → LibWorld
made w x = with_arena w (with_table (new_table w.arena w.owner) (next_table w.arena w.owner) x)

module _ (w : LibWorld) (world : IsWorld w) (there : HasTable (new_table w.arena w.owner) (next_table w.arena w.owner)) where
  pub new_world : IsWorld (with_new w)
  new_world = (new_table_keeps w world).world

  pub new_use : MayUseIn (with_new w) (value.Table (next_table w.arena w.owner))
  new_use = new_table_use w world there

  new_is : table_at (new_table w.arena w.owner) (next_table w.arena w.owner) ≡ no_table
  new_is = new_table_at w.arena w.owner there

  -- what may be used may be used in the new table
  pub filled_keeps : (x : TableView) → x.is_marked ≡ false → OfTable (MayUseIn (with_new w)) x → Keeps (with_new w) (made w x)
  filled_keeps x mark used =
      changed_keeps (with_new w) new_world (next_table w.arena w.owner) new_use x
      (ap (λ (t : TableView). t.is_frozen) new_is) (mark ∙ sym (ap (λ (t : TableView). t.is_marked) new_is)) used

  pub made_keeps : (x : TableView) → x.is_marked ≡ false → OfTable (MayUseIn (with_new w)) x → Keeps w (made w x)
  made_keeps x mark used = keeps_on w (with_new w) (made w x) (new_table_keeps w world) (filled_keeps x mark used)

  pub made_store : (x : TableView) → store_in (made w x) ≡ store.with_new_table (store_in w) (table_of w.names x)
  made_store x =
      changed_part w.names w.globals (new_table w.arena w.owner) w.owner new_world.own (next_table w.arena w.owner) x new_use
      ∙ ap (λ r. store.with_table (store_in (with_new w)) r (table_of w.names x)) (new_table_is w world)
      ∙ ap (λ s. store.with_table s (store.next_table (store_in w)) (table_of w.names x)) (new_table_store w world there)
      ∙ new_table_written (store_in w) store.empty_table (table_of w.names x)

  pub made_runs : (x : TableView) (y : store.TableOf) (rs rs' : List Value) (result : Result (Unit {0}) Ending) → Keeps (with_new w) (made w x) → y ≡ table_of w.names x → Gives rs rs' (value.Table (next_table w.arena w.owner) ∷ []) result → Runs w (made w x) rs rs' result (string.new_table (store_in w) y)
  unfolding meant
  made_runs x y rs rs' result keeps is given =
      gives_runs w (made w x) rs rs' (value.Table (next_table w.arena w.owner) ∷ []) result _ given
      (may_use_on (with_new w) (made w x) keeps (value.Table (next_table w.arena w.owner)) new_use, tt)
      (ap (λ r. model.Answers (m.Table r ∷ []) (store.with_new_table (store_in w) y)) (sym (new_table_is w world))
      ∙ ap (λ s. model.Answers (m.Table (table_ref (next_table w.arena w.owner)) ∷ []) s) (ap (store.with_new_table (store_in w)) is ∙ sym (made_store x)))

  pub empty_runs : (rs rs' : List Value) (result : Result (Unit {0}) Ending) → Gives rs rs' (value.Table (next_table w.arena w.owner) ∷ []) result → Runs w (with_new w) rs rs' result (string.new_table (store_in w) store.empty_table)
  unfolding meant
  empty_runs rs rs' result given =
      gives_runs w (with_new w) rs rs' (value.Table (next_table w.arena w.owner) ∷ []) result _ given (new_use, tt)
      (ap (λ r. model.Answers (m.Table r ∷ []) (store.with_new_table (store_in w) store.empty_table)) (sym (new_table_is w world))
      ∙ ap (λ s. model.Answers (m.Table (table_ref (next_table w.arena w.owner)) ∷ []) s) (sym (new_table_store w world there)))

  -- ---- values in a new table

  pub listed_use : (k : ℤ) (vs : List Value) → AllByRecursion (MayUseIn w) vs → OfTable (MayUseIn (with_new w)) (put_all no_table k vs)
  listed_use k vs h =
      kept.put_all_holds (MayUseIn (with_new w)) (tt, tt) (λ z. (tt, tt)) no_table k vs (record { entries = tt; meta = tt })
      (all_use_on w (with_new w) (new_table_keeps w world) vs h)

  pub listed_is : (k : ℤ) (vs : List Value) → AllByRecursion (MayUseIn w) vs → tables.put_all store.empty_table k (map (meant w.names) vs) ≡ table_of w.names (put_all no_table k vs)
  listed_is k vs h =
      kept.put_all_kept w.names w.owner world.own.interned.distinct no_table k vs (record { entries = tt; meta = tt })
      (each_map (MayUseIn w) (IsOfScript w.names w.owner) (own_value w.names w.globals w.arena w.owner world.own) vs h)

  -- ---- one value again and again

  pub again_keeps : (n : ℕ) (v : Value) → MayUseIn w v → Keeps (with_new w) (made w (put_all no_table (pos 1) (replicate n v)))
  unfolding put_all
  again_keeps n v h =
      filled_keeps (put_all no_table (pos 1) (replicate n v)) refl
      (listed_use (pos 1) (replicate n v) (kept.replicate_holds (MayUseIn w) (tt, tt) (λ z. (tt, tt)) n v h))

  pub again_is : (n : ℕ) (v : Value) → MayUseIn w v → is_nil v ≡ false → rows.filled_table n (meant w.names v) ≡ table_of w.names (put_all no_table (pos 1) (replicate n v))
  again_is n v h full =
      filled_some w.names n v full
      ∙ ap (tables.put_all store.empty_table (pos 1)) (sym (map_replicate w.names n v))
      ∙ listed_is (pos 1) (replicate n v) (kept.replicate_holds (MayUseIn w) (tt, tt) (λ z. (tt, tt)) n v h)

  -- ---- what was begun

  pub began_keep : (x : TableView) (from : ℤ) (vs : List Value) → AllByRecursion (MayUseIn w) vs → Began no_table x from vs → Keeps w (made w x)
  unfolding put_all
  began_keep x from vs h b =
      subst (λ (x : TableView). Keeps w (made w x)) (sym b.is)
      (made_keeps (put_all no_table from (take b.count vs)) refl (listed_use from (take b.count vs) (kept.take_holds (MayUseIn w) (tt, tt) (λ z. (tt, tt)) b.count vs h)))

-- ---- where the arena and the table are known by equations

pub there_is : (w : LibWorld) (a : ArenaView) (id : TableId) → a ≡ new_table w.arena w.owner → id ≡ next_table w.arena w.owner → HasTable a id → HasTable (new_table w.arena w.owner) (next_table w.arena w.owner)
there_is w a id e f h = subst (λ id. HasTable (new_table w.arena w.owner) id) f (subst (λ (a : ArenaView). HasTable a id) e h)

pub at_new : (w : LibWorld) (P : ArenaView → TableId → Type 0) (a : ArenaView) (id : TableId) → a ≡ new_table w.arena w.owner → id ≡ next_table w.arena w.owner → P (new_table w.arena w.owner) (next_table w.arena w.owner) → P a id
at_new w P a id e f p = subst (λ id. P a id) (sym f) (subst (λ (a : ArenaView). P a (next_table w.arena w.owner)) (sym e) p)

-- ---- the limit of `create`

pub create_fails : (texts : List Bytes) (s : store.Store) (n : ℕ) (v : m.Value) → rows.most_elements < n → Fails texts (rows.creates s n v (nat_le n rows.most_elements)) (RunError TooManyValues)
unfolding meant_error
create_fails texts s n v l = (ap (rows.creates s n v) (many n rows.most_elements l), tt)

pub create_fits : (s : store.Store) (n i : ℕ) (v given : m.Value) → n ≤ rows.most_elements → n ≡ i → v ≡ given → rows.creates s i given (nat_le i rows.most_elements) ≡ string.new_table s (rows.filled_table n v)
create_fits s n i v given l e f =
    ap (λ i. rows.creates s i given (nat_le i rows.most_elements)) (sym e)
    ∙ ap (rows.creates s n given) (few n rows.most_elements l)
    ∙ ap (λ v. string.new_table s (rows.filled_table n v)) (sym f)

pub is_new : (w : LibWorld) (a : ArenaView) (id : TableId) → a ≡ new_table w.arena w.owner → id ≡ next_table w.arena w.owner → HasTable a id → table_at a id ≡ no_table
is_new w a id e f h = at_new w (λ a id. table_at a id ≡ no_table) a id e f (new_table_at w.arena w.owner (there_is w a id e f h))

module _ (w : LibWorld) (world : IsWorld w) (a : ArenaView) (id : TableId) where
  pub empty_at : (y : store.TableOf) (rs rs' : List Value) (result : Result (Unit {0}) Ending) → a ≡ new_table w.arena w.owner → id ≡ next_table w.arena w.owner → HasTable a id → y ≡ store.empty_table → Gives rs rs' (value.Table id ∷ []) result → Runs w (with_arena w a) rs rs' result (string.new_table (store_in w) y)
  empty_at y rs rs' result e f h is =
      at_new w (λ a id. Gives rs rs' (value.Table id ∷ []) result → Runs w (with_arena w a) rs rs' result (string.new_table (store_in w) y)) a id e f
      (λ given. subst (λ y. Runs w (with_new w) rs rs' result (string.new_table (store_in w) y)) (sym is) (empty_runs w world (there_is w a id e f h) rs rs' result given))

  pub made_at : (x x' : TableView) (y : store.TableOf) (rs rs' : List Value) (result : Result (Unit {0}) Ending) → a ≡ new_table w.arena w.owner → id ≡ next_table w.arena w.owner → HasTable a id → x ≡ x' → Keeps (with_new w) (made w x') → y ≡ table_of w.names x' → Gives rs rs' (value.Table id ∷ []) result → Runs w (with_arena w (with_table a id x)) rs rs' result (string.new_table (store_in w) y)
  made_at x x' y rs rs' result e f h is keeps meant_is =
      at_new w (λ a id. Gives rs rs' (value.Table id ∷ []) result → Runs w (with_arena w (with_table a id x)) rs rs' result (string.new_table (store_in w) y)) a id e f
      (λ given. subst (λ (x : TableView). Runs w (made w x) rs rs' result (string.new_table (store_in w) y)) (sym is) (made_runs w world (there_is w a id e f h) x' y rs rs' result keeps meant_is given))

  pub kept_at : (x x' : TableView) → a ≡ new_table w.arena w.owner → id ≡ next_table w.arena w.owner → x ≡ x' → Keeps (with_new w) (made w x') → Keeps w (with_arena w (with_table a id x))
  kept_at x x' e f is keeps =
      at_new w (λ a id. Keeps w (with_arena w (with_table a id x))) a id e f
      (subst (λ (x : TableView). Keeps w (made w x)) (sym is) (keeps_on w (with_new w) (made w x') (new_table_keeps w world) keeps))

  pub began_at : (x : TableView) (from : ℤ) (vs : List Value) → a ≡ new_table w.arena w.owner → id ≡ next_table w.arena w.owner → HasTable a id → AllByRecursion (MayUseIn w) vs → Began no_table x from vs → Keeps w (with_arena w (with_table a id x))
  began_at x from vs e f h used b =
      at_new w (λ a id. Keeps w (with_arena w (with_table a id x))) a id e f (began_keep w world (there_is w a id e f h) x from vs used b)

pub again_used : (w : LibWorld) (n : ℕ) (v : Value) → MayUseIn w v → AllByRecursion (MayUseIn w) (replicate n v)
again_used w n v h = kept.replicate_holds (MayUseIn w) (tt, tt) (λ z. (tt, tt)) n v h

-- ---- `pack`

module _ (w : LibWorld) (world : IsWorld w) (there : HasTable (new_table w.arena w.owner) (next_table w.arena w.owner)) (n : StrId) (vs : List Value) (z : ℤ) (is_n : slice_get w.names n.0 ≡ Some (codes "n")) (used : AllByRecursion (MayUseIn w) vs) (count : z ≡ pos (length vs)) where
  n_within : n.0 < length w.names
  n_within = slice_get_within w.names n.0 (codes "n") is_n

  pub packed_keeps : Keeps (with_new w) (made w (rule.put (put_all no_table (pos 1) vs) (value.Str n) (value.Num z)))
  unfolding put_all rule.put
  packed_keeps =
      filled_keeps w world there (rule.put (put_all no_table (pos 1) vs) (value.Str n) (value.Num z)) refl
      (put_holds (MayUseIn (with_new w)) (put_all no_table (pos 1) vs) (value.Str n) (value.Num z) (listed_use w world there (pos 1) vs used) (tt, n_within) (tt, tt))

  pub packed_is : tables.put (tables.put_all store.empty_table (pos 1) (map (meant w.names) vs)) (m.Text (codes "n")) (m.Number (pos (length (map (meant w.names) vs)))) ≡ table_of w.names (rule.put (put_all no_table (pos 1) vs) (value.Str n) (value.Num z))
  unfolding meant
  packed_is =
      let d = world.own.interned.distinct in
      let own : OfTable (IsOfScript w.names w.owner) (put_all no_table (pos 1) vs) =
      kept.put_all_holds (IsOfScript w.names w.owner) tt (λ z. tt) no_table (pos 1) vs (record { entries = tt; meta = tt })
      (each_map (MayUseIn w) (IsOfScript w.names w.owner) (own_value w.names w.globals w.arena w.owner world.own) vs used) in
      ap (λ y. tables.put y (m.Text (codes "n")) (m.Number (pos (length (map (meant w.names) vs))))) (listed_is w world there (pos 1) vs used)
      ∙ ap (λ bs. tables.put (table_of w.names (put_all no_table (pos 1) vs)) (m.Text bs) (m.Number (pos (length (map (meant w.names) vs))))) (sym (get_or_from_slice_get w.names n.0 (codes "n") [] is_n))
      ∙ ap (λ k. tables.put (table_of w.names (put_all no_table (pos 1) vs)) (m.Text (bytes_at w.names n.0)) (m.Number k)) (ap pos (length-map vs (meant w.names)) ∙ sym count)
      ∙ put_kept w.names w.owner d (put_all no_table (pos 1) vs) (value.Str n) (value.Num z) own n_within

-- a row that runs from a world with more texts runs from the one before
pub runs_since : (v w u : LibWorld) (rs rs' : List Value) (result : Result (Unit {0}) Ending) (row : model.LibAnswer) → store_in v ≡ store_in w → Runs v u rs rs' result row → Runs w u rs rs' result row
runs_since v w u rs rs' (Ok done) row e h = record { given = h.given; appended = h.appended; meant = h.meant; stays = tt; usable = tt; values = h.values }
runs_since v w u rs rs' (Err x) row e h = record { results = h.results; store = subst (λ s. LeavesStore x s (store_in u)) e h.store; fails = h.fails }

pub pack_since : (v w u : LibWorld) (vs : List Value) (rs rs' : List Value) (result : Result (Unit {0}) Ending) → store_in v ≡ store_in w → map (meant v.names) vs ≡ map (meant w.names) vs → Runs v u rs rs' result (rows.pack_row (map (meant v.names) vs) (store_in v)) → Runs w u rs rs' result (rows.pack_row (map (meant w.names) vs) (store_in w))
pack_since v w u vs rs rs' result e f h =
    subst (λ row. Runs w u rs rs' result row) (ap (λ s. rows.pack_row (map (meant v.names) vs) s) e ∙ ap (λ args. rows.pack_row args (store_in w)) f)
    (runs_since v w u rs rs' result (rows.pack_row (map (meant v.names) vs) (store_in v)) e h)
