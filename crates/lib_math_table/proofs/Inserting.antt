-- Rows that put a value into a table.
use Rattle.std.proofs.Common.{◌≡◌, ℕ, ℤ, pos, ◌+ℤ◌, Bool, true, false, ◌&&◌, List, [], take, Result, Ok, Err, Some, None, slice_get, refl, sym, ◌∙◌, ap, subst}
use Rattle.std.specs.List.{AllByRecursion}
use Rattle.std.specs.Prelude.{int_le, if◌then◌else◌}
use Rattle.whole_num.specs.Whole.{is_whole, within}
use Rattle.whole_num.specs.declared.arithmetic.Stop.{Stop}
use Rattle.whole_num.specs.declared.arithmetic.Stop.TheVariants.{OutOfRange}
use Rattle.value_model.specs.Answers as model
use Rattle.value_model.specs.Arguments.{table_argument, any_at, number_at, out_of_range}
use Rattle.value_model.specs.Parts.{meant, table_ref}
use Rattle.value_model.specs.Store as store
use Rattle.value_model.specs.StringRows.{count_between}
use Rattle.value_model.specs.TableRows as rows
use Rattle.value_model.specs.Tables as tables
use Rattle.value_model.specs.Values as m
use Rattle.value_model.specs.Values.{TableRef}
use Rattle.value_model.specs.declared.builtin.Builtin.TheVariants as builtin
use Rattle.value_model.specs.declared.error.RunErr.TheVariants.{ReadonlyTable}
use Rattle.value_model.specs.declared.ids.TableId.{TableId}
use Rattle.value_model.specs.declared.value.Value.{Value}
use Rattle.value_model.specs.declared.value.Value.TheVariants as value
use Rattle.value_arena.specs.Arenas.{ArenaView, table_at, with_table}
use Rattle.value_arena.proofs.Laws.{table_kept}
use Rattle.value_arena.specs.Tables.{TableView}
use Rattle.luau_tables.specs.Part.{table_of, OfTable, IsOfScript}
use Rattle.luau_tables.specs.Rules as rule
use Rattle.luau_tables.specs.Worlds.{IsWorld, Keeps, MayUseIn, store_in}
use Rattle.luau_tables.specs.declared.globals.LibWorld.{LibWorld}
use Rattle.luau_tables.proofs.OwnKept.{changed_part}
use Rattle.luau_tables.proofs.WorldsKept.{keeps_self, put_keeps}
use Rattle.luau_tables.proofs.TablesKept.{put_holds, put_kept}
use Rattle.lib_arguments.specs.Checks.{Fails}
use Rattle.lib_arguments.specs.declared.ending.Ending.{Ending}
use Rattle.lib_arguments.specs.declared.ending.Ending.TheVariants.{RunError}
use Rattle.table_lists.specs.Lists.{items, put_all, inserted, Began}
use Rattle.table_lists.proofs.Kept as kept
use Rattle.lib_math_table.proofs.Changes.{with_changed, table_is, usable, scripts, thawed_is, frozen_fails, changed_keeps}

-- ---- sums in range

abbrev stopped : Stop → Result ℤ Stop
stopped x = Err x

sum_ok : (z k : ℤ) (b : Bool) → is_whole z ≡ b → Ok k ≡ (if b then Ok z else Err OutOfRange) → (is_whole z ≡ true) × (k ≡ z)
sum_ok z k true e h = (e, cc)
sum_ok z k false e h = absurd (cc)

pub sum_found : (z k : ℤ) → Ok k ≡ within z → (is_whole z ≡ true) × (k ≡ z)
sum_found z k h = sum_ok z k (is_whole z) refl h

sum_err : (z : ℤ) (x : Stop) (b : Bool) → is_whole z ≡ b → stopped x ≡ (if b then Ok z else Err OutOfRange) → (is_whole z ≡ false) × (x ≡ OutOfRange)
sum_err z x true e h = absurd (cc)
sum_err z x false e h = (e, cc)

pub sum_stops : (z : ℤ) (x : Stop) → stopped x ≡ within z → (is_whole z ≡ false) × (x ≡ OutOfRange)
sum_stops z x h = sum_err z x (is_whole z) refl h

no_stop : (z : ℤ) (b : Bool) → is_whole z ≡ b → ((x : Stop) → (if b then Ok z else Err OutOfRange) ≡ stopped x → ⊥) → is_whole z ≡ true
no_stop z true e h = e
no_stop z false e h = absurd (h OutOfRange refl)

pub sum_fits : (r : Result ℤ Stop) (z : ℤ) → r ≡ within z → ((x : Stop) → r ≡ stopped x → ⊥) → is_whole z ≡ true
sum_fits r z e h = no_stop z (is_whole z) refl (λ x k. h x (e ∙ k))

pub sum_is : (r : Result ℤ Stop) (a b c d : ℤ) → r ≡ within (a +ℤ b) → a ≡ c → b ≡ d → r ≡ within (c +ℤ d)
sum_is r a b c d h e f = h ∙ ap (λ z. within (z +ℤ b)) e ∙ ap (λ z. within (c +ℤ z)) f

module _ (w : LibWorld) (world : IsWorld w) (t : TableId) (may : MayUseIn w (value.Table t)) where
  -- ---- what a changed table is

  pub changed_is : (x : TableView) (y : store.TableOf) (vs : List m.Value) → y ≡ table_of w.names x → rows.changed (store_in w) (table_ref t) vs y ≡ model.Answers vs (store_in (with_changed w t x))
  changed_is x y vs e =
      ap (λ y. model.Answers vs (store.with_table (store_in w) (table_ref t) y)) e
      ∙ ap (λ s. model.Answers vs s) (sym (changed_part w.names w.globals w.arena w.owner world.own t x may))

  pub end_is : rows.end_of (store.table_at (store_in w) (table_ref t)) ≡ pos (rule.border (table_at w.arena t))
  end_is = ap rows.end_of (table_is w world t may) ∙ kept.end_kept w.names w.owner world.own.interned.distinct (table_at w.arena t) (scripts w world t may)

  pub same_keeps : (x : TableView) → x ≡ table_at w.arena t → Keeps w (with_changed w t x)
  same_keeps x e = subst (λ (a : ArenaView). Keeps w (record w { arena = a })) (sym (ap (λ x. with_table w.arena t x) e ∙ table_kept w.arena t)) (keeps_self w world)

  pub began_keeps : (x : TableView) (from : ℤ) (vs : List Value) → (table_at w.arena t).is_frozen ≡ false → AllByRecursion (MayUseIn w) vs → Began (table_at w.arena t) x from vs → Keeps w (with_changed w t x)
  unfolding put_all
  began_keeps x from vs thawed h b =
      subst (λ (x : TableView). Keeps w (with_changed w t x)) (sym b.is)
      (changed_keeps w world t may (put_all (table_at w.arena t) from (take b.count vs)) thawed refl
      (kept.put_all_holds (MayUseIn w) (tt, tt) (λ z. (tt, tt)) (table_at w.arena t) from (take b.count vs) (usable w world t may)
      (kept.take_holds (MayUseIn w) (tt, tt) (λ z. (tt, tt)) b.count vs h)))

  -- ---- a value behind the border

  put_number_is : (u : TableView) (z : ℤ) (v : Value) → OfTable (IsOfScript w.names w.owner) u → tables.put (table_of w.names u) (m.Number z) (meant w.names v) ≡ table_of w.names (rule.put u (value.Num z) v)
  unfolding meant
  put_number_is u z v h = put_kept w.names w.owner world.own.interned.distinct u (value.Num z) v h tt

  in_range_is : (z : ℤ) (go : model.LibAnswer) → is_whole z ≡ true → rows.if_in_range z go ≡ go
  in_range_is z go e = ap (λ b. if b then go else model.HaltsWith OutOfRange) e

  append_at : m.Value → ℤ → model.LibAnswer
  append_at v z = rows.if_in_range z (rows.changed (store_in w) (table_ref t) [] (tables.put (store.table_at (store_in w) (table_ref t)) (m.Number z) v))

  append_from : (v : m.Value) → (table_at w.arena t).is_frozen ≡ false → rows.append (store_in w) (table_ref t) v ≡ append_at v (pos (rule.border (table_at w.arena t)) +ℤ pos 1)
  unfolding append_at
  append_from v thawed =
      thawed_is w world t may (append_at v (rows.end_of (store.table_at (store_in w) (table_ref t)) +ℤ pos 1)) thawed
      ∙ ap (λ z. append_at v (z +ℤ pos 1)) end_is

  pub append_is : (x : TableView) (v : Value) (z : ℤ) → (table_at w.arena t).is_frozen ≡ false → Ok z ≡ within (pos (rule.border (table_at w.arena t)) +ℤ pos 1) → x ≡ rule.put (table_at w.arena t) (value.Num z) v → rows.append (store_in w) (table_ref t) (meant w.names v) ≡ model.Answers [] (store_in (with_changed w t x))
  unfolding append_at
  append_is x v z thawed e is =
      let found = sum_found (pos (rule.border (table_at w.arena t)) +ℤ pos 1) z e in
      append_from (meant w.names v) thawed
      ∙ ap (append_at (meant w.names v)) (sym found.1)
      ∙ in_range_is z (rows.changed (store_in w) (table_ref t) [] (tables.put (store.table_at (store_in w) (table_ref t)) (m.Number z) (meant w.names v))) (ap is_whole found.1 ∙ found.0)
      ∙ changed_is x (tables.put (store.table_at (store_in w) (table_ref t)) (m.Number z) (meant w.names v)) []
      (ap (λ u. tables.put u (m.Number z) (meant w.names v)) (table_is w world t may) ∙ put_number_is (table_at w.arena t) z v (scripts w world t may) ∙ ap (table_of w.names) (sym is))

  pub append_stops : (v : m.Value) (x : Stop) → (table_at w.arena t).is_frozen ≡ false → stopped x ≡ within (pos (rule.border (table_at w.arena t)) +ℤ pos 1) → rows.append (store_in w) (table_ref t) v ≡ model.HaltsWith x
  unfolding append_at
  append_stops v x thawed e =
      let z = pos (rule.border (table_at w.arena t)) +ℤ pos 1 in
      let found = sum_stops z x e in
      append_from v thawed
      ∙ ap (λ b. if b then rows.changed (store_in w) (table_ref t) [] (tables.put (store.table_at (store_in w) (table_ref t)) (m.Number z) v) else model.HaltsWith OutOfRange) found.0
      ∙ ap model.HaltsWith (sym found.1)

  pub append_keeps : (x : TableView) (v : Value) (z : ℤ) → MayUseIn w v → (table_at w.arena t).is_frozen ≡ false → x ≡ rule.put (table_at w.arena t) (value.Num z) v → Keeps w (with_changed w t x)
  append_keeps x v z h thawed e = subst (λ (x : TableView). Keeps w (with_changed w t x)) (sym e) (put_keeps w world t (value.Num z) v may thawed (tt, tt) h)

  -- ---- a value in its place

  pub place_is : (k : ℤ) (b : Bool) → b ≡ (int_le (pos 1) k && int_le k (pos (rule.border (table_at w.arena t)) +ℤ pos 1)) → rows.is_between (pos 1) k (rows.end_of (store.table_at (store_in w) (table_ref t)) +ℤ pos 1) ≡ b
  place_is k b e = ap (λ z. rows.is_between (pos 1) k (z +ℤ pos 1)) end_is ∙ sym e

  insert_rest : m.Value → ℤ → ℤ → model.LibAnswer
  insert_rest v k z = rows.unless_frozen (store_in w) (table_ref t) (rows.if_in_range z (rows.changed (store_in w) (table_ref t) [] (rows.with_inserted (store.table_at (store_in w) (table_ref t)) k v)))

  pub insert_out : (v : m.Value) (k : ℤ) (e : Ending) → false ≡ (int_le (pos 1) k && int_le k (pos (rule.border (table_at w.arena t)) +ℤ pos 1)) → Fails w.names (out_of_range builtin.TableInsert 1) e → Fails w.names (rows.insert_at (store_in w) (table_ref t) v k) e
  unfolding insert_rest
  insert_out v k e out h =
      subst (λ b. Fails w.names (if b then insert_rest v k (rows.end_of (store.table_at (store_in w) (table_ref t)) +ℤ pos 1) else out_of_range builtin.TableInsert 1) e) (sym (place_is k false out)) h

  insert_from : (v : m.Value) (k : ℤ) → true ≡ (int_le (pos 1) k && int_le k (pos (rule.border (table_at w.arena t)) +ℤ pos 1)) → rows.insert_at (store_in w) (table_ref t) v k ≡ insert_rest v k (pos (rule.border (table_at w.arena t)) +ℤ pos 1)
  unfolding insert_rest
  insert_from v k h =
      ap (λ b. if b then insert_rest v k (rows.end_of (store.table_at (store_in w) (table_ref t)) +ℤ pos 1) else out_of_range builtin.TableInsert 1) (place_is k true h)
      ∙ ap (λ z. insert_rest v k (z +ℤ pos 1)) end_is

  pub insert_frozen : (v : m.Value) (k : ℤ) → true ≡ (int_le (pos 1) k && int_le k (pos (rule.border (table_at w.arena t)) +ℤ pos 1)) → (table_at w.arena t).is_frozen ≡ true → Fails w.names (rows.insert_at (store_in w) (table_ref t) v k) (RunError ReadonlyTable)
  unfolding insert_rest
  insert_frozen v k h frozen =
      subst (λ row. Fails w.names row (RunError ReadonlyTable)) (sym (insert_from v k h))
      (frozen_fails w world t may (rows.if_in_range (pos (rule.border (table_at w.arena t)) +ℤ pos 1) (rows.changed (store_in w) (table_ref t) [] (rows.with_inserted (store.table_at (store_in w) (table_ref t)) k v))) frozen)

  pub insert_stops : (v : m.Value) (k : ℤ) (x : Stop) → true ≡ (int_le (pos 1) k && int_le k (pos (rule.border (table_at w.arena t)) +ℤ pos 1)) → (table_at w.arena t).is_frozen ≡ false → stopped x ≡ within (pos (rule.border (table_at w.arena t)) +ℤ pos 1) → rows.insert_at (store_in w) (table_ref t) v k ≡ model.HaltsWith x
  unfolding insert_rest
  insert_stops v k x h thawed e =
      let z = pos (rule.border (table_at w.arena t)) +ℤ pos 1 in
      let go = rows.changed (store_in w) (table_ref t) [] (rows.with_inserted (store.table_at (store_in w) (table_ref t)) k v) in
      let found = sum_stops z x e in
      insert_from v k h
      ∙ thawed_is w world t may (rows.if_in_range z go) thawed
      ∙ ap (λ b. if b then go else model.HaltsWith OutOfRange) found.0
      ∙ ap model.HaltsWith (sym found.1)

  inserted_is : (k : ℤ) (v : Value) → rows.with_inserted (table_of w.names (table_at w.arena t)) k (meant w.names v) ≡ table_of w.names (inserted (table_at w.arena t) k (count_between k (pos (rule.border (table_at w.arena t)))) v)
  inserted_is k v =
      let u = table_at w.arena t in
      let d = world.own.interned.distinct in
      let n = count_between k (pos (rule.border u)) in
      let own = scripts w world t may in
      let held = kept.items_hold (IsOfScript w.names w.owner) tt (λ z. tt) u k n own in
      ap (λ e. tables.put (tables.put_all (table_of w.names u) (k +ℤ pos 1) (rows.items (table_of w.names u) k (count_between k e))) (m.Number k) (meant w.names v)) (kept.end_kept w.names w.owner d u own)
      ∙ ap (λ vs. tables.put (tables.put_all (table_of w.names u) (k +ℤ pos 1) vs) (m.Number k) (meant w.names v)) (kept.items_kept w.names w.owner d u k n own)
      ∙ ap (λ y. tables.put y (m.Number k) (meant w.names v)) (kept.put_all_kept w.names w.owner d u (k +ℤ pos 1) (items u k n) own held)
      ∙ put_number_is (put_all u (k +ℤ pos 1) (items u k n)) k v (kept.put_all_holds (IsOfScript w.names w.owner) tt (λ z. tt) u (k +ℤ pos 1) (items u k n) own held)

  pub insert_is : (x : TableView) (v : Value) (k : ℤ) (n : ℕ) → true ≡ (int_le (pos 1) k && int_le k (pos (rule.border (table_at w.arena t)) +ℤ pos 1)) → (table_at w.arena t).is_frozen ≡ false → is_whole (pos (rule.border (table_at w.arena t)) +ℤ pos 1) ≡ true → n ≡ count_between k (pos (rule.border (table_at w.arena t))) → x ≡ inserted (table_at w.arena t) k n v → rows.insert_at (store_in w) (table_ref t) (meant w.names v) k ≡ model.Answers [] (store_in (with_changed w t x))
  unfolding insert_rest
  insert_is x v k n h thawed e count is =
      let y = pos (rule.border (table_at w.arena t)) +ℤ pos 1 in
      let go = rows.changed (store_in w) (table_ref t) [] (rows.with_inserted (store.table_at (store_in w) (table_ref t)) k (meant w.names v)) in
      insert_from (meant w.names v) k h
      ∙ thawed_is w world t may (rows.if_in_range y go) thawed
      ∙ in_range_is y go e
      ∙ changed_is x (rows.with_inserted (store.table_at (store_in w) (table_ref t)) k (meant w.names v)) []
      (ap (λ u. rows.with_inserted u k (meant w.names v)) (table_is w world t may)
      ∙ inserted_is k v
      ∙ ap (λ n. table_of w.names (inserted (table_at w.arena t) k n v)) (sym count)
      ∙ ap (table_of w.names) (sym is))

  pub insert_keeps : (x : TableView) (v : Value) (k : ℤ) (n : ℕ) → MayUseIn w v → (table_at w.arena t).is_frozen ≡ false → x ≡ inserted (table_at w.arena t) k n v → Keeps w (with_changed w t x)
  unfolding rule.put put_all
  insert_keeps x v k n h thawed is =
      let u = table_at w.arena t in
      let used = usable w world t may in
      let vs = items u k n in
      let held = kept.items_hold (MayUseIn w) (tt, tt) (λ z. (tt, tt)) u k n used in
      subst (λ (x : TableView). Keeps w (with_changed w t x)) (sym is)
      (changed_keeps w world t may (inserted u k n v) thawed refl
      (put_holds (MayUseIn w) (put_all u (k +ℤ pos 1) vs) (value.Num k) v (kept.put_all_holds (MayUseIn w) (tt, tt) (λ z. (tt, tt)) u (k +ℤ pos 1) vs used held) (tt, tt) h))

  pub items_used : (k : ℤ) (n : ℕ) → AllByRecursion (MayUseIn w) (items (table_at w.arena t) k n)
  items_used k n = kept.items_hold (MayUseIn w) (tt, tt) (λ z. (tt, tt)) (table_at w.arena t) k n (usable w world t may)

-- ---- the number of arguments

pub without_place : (args : List m.Value) (s : store.Store) (r : TableRef) → ((go : TableRef → model.LibAnswer) → table_argument builtin.TableInsert 0 args go ≡ go r) → slice_get args 2 ≡ None → rows.insert_row args s ≡ any_at builtin.TableInsert 1 args (rows.append s r)
without_place args s r look none = look (λ t. rows.inserts s t args (slice_get args 2)) ∙ ap (rows.inserts s r args) none

pub with_place : (args : List m.Value) (s : store.Store) (r : TableRef) (v : m.Value) → ((go : TableRef → model.LibAnswer) → table_argument builtin.TableInsert 0 args go ≡ go r) → slice_get args 2 ≡ Some v → rows.insert_row args s ≡ number_at builtin.TableInsert 1 args (rows.insert_at s r v)
with_place args s r v look some = look (λ t. rows.inserts s t args (slice_get args 2)) ∙ ap (rows.inserts s r args) some
