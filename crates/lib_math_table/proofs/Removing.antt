-- Rows that take a value out of a table.
use Rattle.std.proofs.Common.{◌≡◌, ℕ, ℤ, pos, ◌+ℤ◌, ◌-ℤ◌, Bool, true, false, ◌&&◌, List, [], ◌∷◌, Result, refl, sym, ◌∙◌, ap, subst, arith}
use Rattle.std.proofs.lemmas.Int.{ints}
use Rattle.std.specs.Prelude.{int_le, if◌then◌else◌}
use Rattle.value_model.specs.Answers as model
use Rattle.value_model.specs.Arguments.{table_argument, number_or}
use Rattle.value_model.specs.CoreRows as core
use Rattle.value_model.specs.Parts.{meant, table_ref}
use Rattle.value_model.specs.Store as store
use Rattle.value_model.specs.StringRows.{natural, count_between}
use Rattle.value_model.specs.TableRows as rows
use Rattle.value_model.specs.Tables as tables
use Rattle.value_model.specs.Values as m
use Rattle.value_model.specs.Values.{TableRef}
use Rattle.value_model.specs.declared.builtin.Builtin.TheVariants as builtin
use Rattle.value_model.specs.declared.ids.TableId.{TableId}
use Rattle.value_model.specs.declared.value.Value.{Value}
use Rattle.value_model.specs.declared.value.Value.TheVariants as value
use Rattle.value_arena.specs.Arenas.{table_at}
use Rattle.value_arena.specs.Tables.{TableView}
use Rattle.luau_tables.specs.Part.{table_of, OfTable, IsOfScript}
use Rattle.luau_tables.specs.Rules as rule
use Rattle.luau_tables.specs.Worlds.{IsWorld, Keeps, MayUseIn, store_in}
use Rattle.luau_tables.specs.declared.globals.LibWorld.{LibWorld}
use Rattle.luau_tables.proofs.TablesKept.{put_holds, put_kept}
use Rattle.luau_tables.proofs.WorldsKept.{may_use_on}
use Rattle.lib_arguments.specs.Rows.{Runs, Gives}
use Rattle.lib_arguments.specs.declared.ending.Ending.{Ending}
use Rattle.lib_arguments.proofs.RowsRun.{gives_runs}
use Rattle.table_lists.specs.Lists.{item, items, put_all, removed}
use Rattle.table_lists.proofs.Kept as kept
use Rattle.lib_math_table.proofs.Changes.{with_changed, table_is, usable, scripts, thawed_is, changed_keeps}
use Rattle.lib_math_table.proofs.Inserting.{changed_is, end_is}

count_is : (n : ℕ) (k e : ℤ) → pos n ≡ e -ℤ k → n ≡ count_between (k +ℤ pos 1) e
count_is n k e h = let is : pos n ≡ (e -ℤ (k +ℤ pos 1)) +ℤ pos 1 = omega (arith, ints, h) in ap natural is

module _ (w : LibWorld) (world : IsWorld w) (t : TableId) (may : MayUseIn w (value.Table t)) where
  pub remove_row_is : (args : List m.Value) (e : ℤ) → ((go : TableRef → model.LibAnswer) → table_argument builtin.TableRemove 0 args go ≡ go (table_ref t)) → e ≡ pos (rule.border (table_at w.arena t)) → rows.remove_row args (store_in w) ≡ number_or builtin.TableRemove 1 args e (rows.remove_at (store_in w) (table_ref t))
  remove_row_is args e look end =
      look (λ t. number_or builtin.TableRemove 1 args (rows.end_of (store.table_at (store_in w) t)) (rows.remove_at (store_in w) t))
      ∙ ap (λ e. number_or builtin.TableRemove 1 args e (rows.remove_at (store_in w) (table_ref t))) (end_is w world t may ∙ sym end)

  taken : ℤ → Bool → model.LibAnswer
  taken k b =
      if b then rows.changed (store_in w) (table_ref t) (tables.item (store.table_at (store_in w) (table_ref t)) k ∷ []) (rows.without_item (store.table_at (store_in w) (table_ref t)) k)
      else core.gives (store_in w) m.Nil

  remove_from : (k : ℤ) (b : Bool) → (table_at w.arena t).is_frozen ≡ false → b ≡ (int_le (pos 1) k && int_le k (pos (rule.border (table_at w.arena t)))) → rows.remove_at (store_in w) (table_ref t) k ≡ taken k b
  unfolding taken
  remove_from k b thawed h =
      thawed_is w world t may (taken k (rows.is_between (pos 1) k (rows.end_of (store.table_at (store_in w) (table_ref t))))) thawed
      ∙ ap (taken k) (ap (rows.is_between (pos 1) k) (end_is w world t may) ∙ sym h)

  pub none_runs : (k : ℤ) (rs rs' : List Value) (result : Result (Unit {0}) Ending) → (table_at w.arena t).is_frozen ≡ false → false ≡ (int_le (pos 1) k && int_le k (pos (rule.border (table_at w.arena t)))) → Gives rs rs' (value.Nil ∷ []) result → Runs w w rs rs' result (rows.remove_at (store_in w) (table_ref t) k)
  unfolding taken meant
  none_runs k rs rs' result thawed h given = gives_runs w w rs rs' (value.Nil ∷ []) result _ given ((tt, tt), tt) (remove_from k false thawed h)

  put_nil_is : (u : TableView) (z : ℤ) → OfTable (IsOfScript w.names w.owner) u → tables.put (table_of w.names u) (m.Number z) m.Nil ≡ table_of w.names (rule.put u (value.Num z) value.Nil)
  unfolding meant
  put_nil_is u z h = put_kept w.names w.owner world.own.interned.distinct u (value.Num z) value.Nil h tt

  removed_is : (k e : ℤ) (n : ℕ) → e ≡ pos (rule.border (table_at w.arena t)) → pos n ≡ e -ℤ k → rows.without_item (table_of w.names (table_at w.arena t)) k ≡ table_of w.names (removed (table_at w.arena t) k n)
  removed_is k e n end h =
      let u = table_at w.arena t in
      let d = world.own.interned.distinct in
      let own = scripts w world t may in
      let held = kept.items_hold (IsOfScript w.names w.owner) tt (λ z. tt) u (k +ℤ pos 1) n own in
      let sum : e ≡ k +ℤ pos n = omega (arith, ints, h) in
      ap (λ e. tables.put (tables.put_all (table_of w.names u) k (rows.items (table_of w.names u) (k +ℤ pos 1) (count_between (k +ℤ pos 1) e))) (m.Number e) m.Nil) (kept.end_kept w.names w.owner d u own ∙ sym end)
      ∙ ap (λ n. tables.put (tables.put_all (table_of w.names u) k (rows.items (table_of w.names u) (k +ℤ pos 1) n)) (m.Number e) m.Nil) (sym (count_is n k e h))
      ∙ ap (λ vs. tables.put (tables.put_all (table_of w.names u) k vs) (m.Number e) m.Nil) (kept.items_kept w.names w.owner d u (k +ℤ pos 1) n own)
      ∙ ap (λ y. tables.put y (m.Number e) m.Nil) (kept.put_all_kept w.names w.owner d u k (items u (k +ℤ pos 1) n) own held)
      ∙ put_nil_is (put_all u k (items u (k +ℤ pos 1) n)) e (kept.put_all_holds (IsOfScript w.names w.owner) tt (λ z. tt) u k (items u (k +ℤ pos 1) n) own held)
      ∙ ap (λ z. table_of w.names (rule.put (put_all u k (items u (k +ℤ pos 1) n)) (value.Num z) value.Nil)) sum

  pub remove_keeps : (x : TableView) (k : ℤ) (n : ℕ) → (table_at w.arena t).is_frozen ≡ false → x ≡ removed (table_at w.arena t) k n → Keeps w (with_changed w t x)
  unfolding rule.put put_all
  remove_keeps x k n thawed is =
      let u = table_at w.arena t in
      let used = usable w world t may in
      let vs = items u (k +ℤ pos 1) n in
      let held = kept.items_hold (MayUseIn w) (tt, tt) (λ z. (tt, tt)) u (k +ℤ pos 1) n used in
      subst (λ (x : TableView). Keeps w (with_changed w t x)) (sym is)
      (changed_keeps w world t may (removed u k n) thawed refl
      (put_holds (MayUseIn w) (put_all u k vs) (value.Num (k +ℤ pos n)) value.Nil (kept.put_all_holds (MayUseIn w) (tt, tt) (λ z. (tt, tt)) u k vs used held) (tt, tt) (tt, tt)))

  pub remove_runs : (x : TableView) (v : Value) (k e : ℤ) (n : ℕ) (rs rs' : List Value) (result : Result (Unit {0}) Ending) → (table_at w.arena t).is_frozen ≡ false → e ≡ pos (rule.border (table_at w.arena t)) → true ≡ (int_le (pos 1) k && int_le k e) → pos n ≡ e -ℤ k → v ≡ item (table_at w.arena t) k → x ≡ removed (table_at w.arena t) k n → Gives rs rs' (v ∷ []) result → Runs w (with_changed w t x) rs rs' result (rows.remove_at (store_in w) (table_ref t) k)
  unfolding taken
  remove_runs x v k e n rs rs' result thawed end h count read is given =
      let u = table_at w.arena t in
      let keeps = remove_keeps x k n thawed is in
      let used = subst (MayUseIn w) (sym read) (kept.item_holds (MayUseIn w) (tt, tt) (λ z. (tt, tt)) u k (usable w world t may)) in
      let got = ap (λ y. tables.item y k) (table_is w world t may) ∙ kept.item_kept w.names w.owner world.own.interned.distinct u k (scripts w world t may) ∙ ap (meant w.names) (sym read) in
      gives_runs w (with_changed w t x) rs rs' (v ∷ []) result _ given
      (may_use_on w (with_changed w t x) keeps v used, tt)
      (remove_from k true thawed (h ∙ ap (λ e. int_le (pos 1) k && int_le k e) end)
      ∙ ap (λ g. rows.changed (store_in w) (table_ref t) (g ∷ []) (rows.without_item (store.table_at (store_in w) (table_ref t)) k)) got
      ∙ changed_is w world t may x (rows.without_item (store.table_at (store_in w) (table_ref t)) k) (meant w.names v ∷ [])
      (ap (λ y. rows.without_item y k) (table_is w world t may) ∙ removed_is k e n end count ∙ ap (table_of w.names) (sym is)))
