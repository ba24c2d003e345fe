-- Rows that move elements.
use Rattle.std.proofs.Common.{◌≡◌, ℕ, zero, suc, ◌^◌, ◌+◌, ◌-◌, ◌<◌, ◌≤◌, ℤ, pos, negsuc, ◌+ℤ◌, true, false, ◌&&◌, List, [], ◌∷◌, map, Result, Ok, Err, ◌⊎◌, inl, inr, refl, sym, ◌∙◌, ap, subst, arith}
use Rattle.std.proofs.lemmas.Int.{ints}
use Rattle.std.specs.List.{AllByRecursion}
use Rattle.std.specs.Prelude.{◌≤ℤ◌, nat_le, IfOk, if◌then◌else◌}
use Rattle.whole_num.specs.Whole.{IsWhole, is_whole}
use Rattle.whole_num.specs.declared.arithmetic.Stop.TheVariants.{OutOfRange}
use Rattle.value_model.specs.Answers as model
use Rattle.value_model.specs.Parts.{meant, meant_error, table_ref}
use Rattle.value_model.specs.Store as store
use Rattle.value_model.specs.TableRows as rows
use Rattle.value_model.specs.Tables as tables
use Rattle.value_model.specs.Values as m
use Rattle.value_model.specs.Values.{Bytes, TableRef}
use Rattle.value_model.specs.StringRows.{count_between}
use Rattle.value_model.specs.Arguments.{table_from}
use Rattle.value_model.specs.declared.builtin.Builtin.TheVariants as builtin
use Rattle.value_model.specs.declared.error.RunErr.TheVariants.{ReadonlyTable, TooManyValues}
use Rattle.value_model.specs.declared.ids.TableId.{TableId}
use Rattle.value_model.specs.declared.value.Value.{Value}
use Rattle.value_model.specs.declared.value.Value.TheVariants as value
use Rattle.value_arena.specs.Arenas.{table_at}
use Rattle.value_arena.specs.Tables.{TableView}
use Rattle.luau_tables.specs.Part.{table_of, IsOfScript}
use Rattle.luau_tables.specs.Worlds.{IsWorld, Keeps, MayUseIn, store_in}
use Rattle.luau_tables.specs.declared.globals.LibWorld.{LibWorld}
use Rattle.luau_tables.proofs.OwnTables.{own_value}
use Rattle.luau_tables.proofs.WorldsKept.{may_use_on}
use Rattle.lib_arguments.specs.Checks.{Checks, Fails}
use Rattle.lib_math_table.specs.Targets.{targets}
use Rattle.lib_arguments.specs.Rows.{Runs, Gives}
use Rattle.lib_arguments.specs.declared.ending.Ending.{Ending}
use Rattle.lib_arguments.specs.declared.ending.Ending.TheVariants.{RunError}
use Rattle.lib_arguments.proofs.RowsRun.{gives_runs, each_map}
use Rattle.table_lists.specs.Lists.{items, put_all}
use Rattle.table_lists.proofs.Kept as kept
use Rattle.lib_math_table.proofs.Changes.{with_changed, table_is, usable, scripts, thawed_is, frozen_fails, changed_keeps}
use Rattle.lib_math_table.proofs.Inserting.{changed_is, items_used}
use Rattle.lib_math_table.proofs.Lists.{few, many}

pub whole_is : (z : ℤ) → IsWhole z → is_whole z ≡ true
whole_is (pos n) h = few n (2 ^ 53) (omega (arith, ints, h.1))
whole_is (negsuc n) h = ap (λ t. t && true) (few n (2 ^ 53 - 1) (omega (arith, ints, h.0)))

pub out_is : (z : ℤ) → pos (2 ^ 53 + 1) ≤ℤ z → is_whole z ≡ false
out_is (pos n) h = many n (2 ^ 53) (omega (arith, ints, h))
out_is (negsuc n) h = absurd (omega (arith, ints, h))

-- ---- values written to a table

module _ (w : LibWorld) (world : IsWorld w) (u : TableId) (may : MayUseIn w (value.Table u)) where
  -- values that the script may use, written to a table, are written to the table that is meant
  pub values_put : (k : ℤ) (vs : List Value) (x : TableView) → AllByRecursion (MayUseIn w) vs → x ≡ put_all (table_at w.arena u) k vs → tables.put_all (store.table_at (store_in w) (table_ref u)) k (map (meant w.names) vs) ≡ table_of w.names x
  values_put k vs x used is =
      ap (λ y. tables.put_all y k (map (meant w.names) vs)) (table_is w world u may)
      ∙ kept.put_all_kept w.names w.owner world.own.interned.distinct (table_at w.arena u) k vs (scripts w world u may)
      (each_map (MayUseIn w) (IsOfScript w.names w.owner) (own_value w.names w.globals w.arena w.owner world.own) vs used)
      ∙ ap (table_of w.names) (sym is)

  pub values_keep : (k : ℤ) (vs : List Value) (x : TableView) → (table_at w.arena u).is_frozen ≡ false → AllByRecursion (MayUseIn w) vs → x ≡ put_all (table_at w.arena u) k vs → Keeps w (with_changed w u x)
  unfolding put_all
  values_keep k vs x thawed used is =
      subst (λ (x : TableView). Keeps w (with_changed w u x)) (sym is)
      (changed_keeps w world u may (put_all (table_at w.arena u) k vs) thawed refl
      (kept.put_all_holds (MayUseIn w) (tt, tt) (λ z. (tt, tt)) (table_at w.arena u) k vs (usable w world u may) used))

-- ---- the row

module _ (w : LibWorld) (world : IsWorld w) (t u : TableId) (may : MayUseIn w (value.Table t)) (into : MayUseIn w (value.Table u)) (first at : ℤ) (n : ℕ) where
  pub move_fails : rows.most_elements < n → Fails w.names (rows.moves (store_in w) (table_ref t) (table_ref u) first at n (nat_le n rows.most_elements)) (RunError TooManyValues)
  unfolding meant_error
  move_fails l = (ap (rows.moves (store_in w) (table_ref t) (table_ref u) first at n) (many n rows.most_elements l), tt)

  move_from : n ≤ rows.most_elements → rows.moves (store_in w) (table_ref t) (table_ref u) first at n (nat_le n rows.most_elements) ≡ rows.unless_frozen (store_in w) (table_ref u) (rows.moved (store_in w) (table_ref t) (table_ref u) first at n)
  move_from l = ap (rows.moves (store_in w) (table_ref t) (table_ref u) first at n) (few n rows.most_elements l)

  pub move_frozen : n ≤ rows.most_elements → (table_at w.arena u).is_frozen ≡ true → Fails w.names (rows.moves (store_in w) (table_ref t) (table_ref u) first at n (nat_le n rows.most_elements)) (RunError ReadonlyTable)
  move_frozen l frozen =
      subst (λ row. Fails w.names row (RunError ReadonlyTable)) (sym (move_from l))
      (frozen_fails w world u into (rows.moved (store_in w) (table_ref t) (table_ref u) first at n) frozen)

  move_thawed : n ≤ rows.most_elements → (table_at w.arena u).is_frozen ≡ false → rows.moves (store_in w) (table_ref t) (table_ref u) first at n (nat_le n rows.most_elements) ≡ rows.moved (store_in w) (table_ref t) (table_ref u) first at n
  move_thawed l thawed = move_from l ∙ thawed_is w world u into (rows.moved (store_in w) (table_ref t) (table_ref u) first at n) thawed

  pub move_none : (rs rs' : List Value) (result : Result (Unit {0}) Ending) → n ≤ rows.most_elements → (table_at w.arena u).is_frozen ≡ false → n ≡ 0 → Gives rs rs' (value.Table u ∷ []) result → Runs w w rs rs' result (rows.moves (store_in w) (table_ref t) (table_ref u) first at n (nat_le n rows.most_elements))
  unfolding meant
  move_none rs rs' result l thawed none given =
      gives_runs w w rs rs' (value.Table u ∷ []) result _ given (into, tt)
      (move_thawed l thawed ∙ ap (rows.moved (store_in w) (table_ref t) (table_ref u) first at) none)

  moved_stops : (n : ℕ) → (n ≡ 0 → ⊥) → IsWhole at → pos (2 ^ 53 + 2) ≤ℤ (at +ℤ pos n) → rows.moved (store_in w) (table_ref t) (table_ref u) first at n ≡ model.HaltsWith OutOfRange
  moved_stops zero some h out = absurd (some refl)
  moved_stops (suc i) some h out =
      ap (λ b. if b then rows.if_in_range (at +ℤ pos i) (rows.changed (store_in w) (table_ref u) (m.Table (table_ref u) ∷ []) (tables.put_all (store.table_at (store_in w) (table_ref u)) at (rows.items (store.table_at (store_in w) (table_ref t)) first (suc i)))) else model.HaltsWith OutOfRange) (whole_is at h)
      ∙ ap (λ b. if b then rows.changed (store_in w) (table_ref u) (m.Table (table_ref u) ∷ []) (tables.put_all (store.table_at (store_in w) (table_ref u)) at (rows.items (store.table_at (store_in w) (table_ref t)) first (suc i))) else model.HaltsWith OutOfRange) (out_is (at +ℤ pos i) (omega (arith, ints, out)))

  pub move_stops : n ≤ rows.most_elements → (table_at w.arena u).is_frozen ≡ false → (n ≡ 0 → ⊥) → IsWhole at → pos (2 ^ 53 + 2) ≤ℤ (at +ℤ pos n) → rows.moves (store_in w) (table_ref t) (table_ref u) first at n (nat_le n rows.most_elements) ≡ model.HaltsWith OutOfRange
  move_stops l thawed some h out = move_thawed l thawed ∙ moved_stops n some h out

  moved_is : (n : ℕ) → (n ≡ 0 → ⊥) → IsWhole at → (at +ℤ pos n) ≤ℤ pos (2 ^ 53 + 1) → rows.moved (store_in w) (table_ref t) (table_ref u) first at n ≡ rows.changed (store_in w) (table_ref u) (m.Table (table_ref u) ∷ []) (tables.put_all (store.table_at (store_in w) (table_ref u)) at (rows.items (store.table_at (store_in w) (table_ref t)) first n))
  moved_is zero some h k = absurd (some refl)
  moved_is (suc i) some h k =
      let go = rows.changed (store_in w) (table_ref u) (m.Table (table_ref u) ∷ []) (tables.put_all (store.table_at (store_in w) (table_ref u)) at (rows.items (store.table_at (store_in w) (table_ref t)) first (suc i))) in
      ap (λ b. if b then rows.if_in_range (at +ℤ pos i) go else model.HaltsWith OutOfRange) (whole_is at h)
      ∙ ap (λ b. if b then go else model.HaltsWith OutOfRange) (whole_is (at +ℤ pos i) (omega (arith, ints, h.0), omega (arith, ints, k)))

  pub move_runs : (x : TableView) (vs : List Value) (rs rs' : List Value) (result : Result (Unit {0}) Ending) → n ≤ rows.most_elements → (table_at w.arena u).is_frozen ≡ false → (n ≡ 0 → ⊥) → IsWhole at → (at +ℤ pos n) ≤ℤ pos (2 ^ 53 + 1) → vs ≡ items (table_at w.arena t) first n → x ≡ put_all (table_at w.arena u) at vs → Gives rs rs' (value.Table u ∷ []) result → Runs w (with_changed w u x) rs rs' result (rows.moves (store_in w) (table_ref t) (table_ref u) first at n (nat_le n rows.most_elements))
  unfolding meant
  move_runs x vs rs rs' result l thawed some h k read is given =
      let used = subst (AllByRecursion (MayUseIn w)) (sym read) (items_used w world t may first n) in
      let got = ap (λ y. rows.items y first n) (table_is w world t may) ∙ kept.items_kept w.names w.owner world.own.interned.distinct (table_at w.arena t) first n (scripts w world t may) ∙ ap (map (meant w.names)) (sym read) in
      let keeps = values_keep w world u into at vs x thawed used is in
      gives_runs w (with_changed w u x) rs rs' (value.Table u ∷ []) result _ given
      (may_use_on w (with_changed w u x) keeps (value.Table u) into, tt)
      (move_thawed l thawed
      ∙ moved_is n some h k
      ∙ ap (λ vs. rows.changed (store_in w) (table_ref u) (m.Table (table_ref u) ∷ []) (tables.put_all (store.table_at (store_in w) (table_ref u)) at vs)) got
      ∙ changed_is w world u into x (tables.put_all (store.table_at (store_in w) (table_ref u)) at (map (meant w.names) vs)) (m.Table (table_ref u) ∷ []) (values_put w world u into at vs x used is))

-- ---- the table that elements go into

pub target_none : (texts : List Bytes) (given : m.Value) (t : TableId) → meant texts value.Nil ≡ given → Checks {A = TableId} texts table_ref (targets (table_ref t) given) (Ok t)
unfolding meant
target_none texts given t h = subst (λ v. Checks {A = TableId} texts table_ref (targets (table_ref t) v) (Ok t)) h (λ go. refl)

pub target_given : (texts : List Bytes) (v : Value) (given : m.Value) (t : TableId) (r : Result TableId Ending) → meant texts v ≡ given → (v ≡ value.Nil → ⊥) → Checks texts table_ref (table_from builtin.TableMove 4 (meant texts v)) r → Checks texts table_ref (targets (table_ref t) given) r
unfolding meant
target_given texts v given t r h other k = subst (λ m. Checks texts table_ref (targets (table_ref t) m) r) h (by v other k)
  where
    by : (v : Value) → (v ≡ value.Nil → ⊥) → Checks texts table_ref (table_from builtin.TableMove 4 (meant texts v)) r → Checks texts table_ref (targets (table_ref t) (meant texts v)) r
    by value.Nil other k = absurd (other refl)
    by v other k = k

-- the row by the table that is given
pub into_is : (s : store.Store) (t : TableRef) (first last at : ℤ) (v : m.Value) → rows.move_into s t first last at v ≡ targets t v (λ u. rows.moves s t u first at (count_between first last) (nat_le (count_between first last) rows.most_elements))
into_is s t first last at m.Nil = refl
into_is s t first last at v = refl

pub there_on : (t : TableId) (v x : Value) (r : Result TableId Ending) → IfOk r (λ u. v ≡ value.Table u) → v ≡ x → IfOk r (λ u. (u ≡ t) ⊎ (x ≡ value.Table u))
there_on t v x (Ok u) h e = inr (sym e ∙ h)
there_on t v x (Err e') h e = tt

pub target_used : (w : LibWorld) (t u : TableId) (x : Value) → (u ≡ t) ⊎ (x ≡ value.Table u) → MayUseIn w (value.Table t) → MayUseIn w x → MayUseIn w (value.Table u)
target_used w t u x (inl e) h k = subst (λ t. MayUseIn w (value.Table t)) (sym e) h
target_used w t u x (inr e) h k = subst (MayUseIn w) e k
