-- Rows that search a table.
use Rattle.std.proofs.Common.{◌≡◌, ℕ, zero, suc, ℤ, pos, ◌+ℤ◌, Bool, true, false, cond, List, [], ◌∷◌, length, Option, Some, None, Result, refl, sym, ◌∙◌, ap}
use Rattle.std.proofs.lemmas.List.{length-map}
use Rattle.value_model.specs.Answers as model
use Rattle.value_model.specs.Arguments.{table_argument, any_at, number_or}
use Rattle.value_model.specs.CoreRows as core
use Rattle.value_model.specs.Parts.{meant, table_ref}
use Rattle.value_model.specs.Store as store
use Rattle.value_model.specs.TableRows as rows
use Rattle.value_model.specs.Tables as tables
use Rattle.value_model.specs.Values as m
use Rattle.value_model.specs.Values.{TableRef}
use Rattle.value_model.specs.declared.builtin.Builtin.TheVariants as builtin
use Rattle.value_model.specs.declared.ids.TableId.{TableId}
use Rattle.value_model.specs.declared.value.Value.{Value}
use Rattle.value_model.specs.declared.value.Value.TheVariants as value
use Rattle.value_arena.specs.Arenas.{table_at}
use Rattle.value_arena.specs.Tables.{TableView, same, is_nil}
use Rattle.luau_tables.specs.Part.{table_of, pair_of, IsOfScript}
use Rattle.luau_tables.specs.Worlds.{IsWorld, MayUseIn, store_in}
use Rattle.luau_tables.specs.declared.globals.LibWorld.{LibWorld}
use Rattle.luau_tables.proofs.OwnTables.{own_value}
use Rattle.luau_tables.proofs.Sameness.{nil_kept, same_kept}
use Rattle.lib_arguments.specs.Rows.{Runs, Gives}
use Rattle.lib_arguments.specs.declared.ending.Ending.{Ending}
use Rattle.lib_arguments.proofs.RowsRun.{gives_runs}
use Rattle.table_lists.specs.Lists.{item, found}
use Rattle.table_lists.proofs.Kept as kept
use Rattle.lib_math_table.proofs.Changes.{table_is, scripts}

found_value : Option ℤ → m.Value
found_value None = m.Nil
found_value (Some z) = m.Number z

chosen : (s : store.Store) (k : ℤ) (nil here : Bool) (rest : model.LibAnswer) → model.LibAnswer
chosen s k nil here rest = elim nil [ true ↦ core.gives s m.Nil | false ↦ elim here [ true ↦ core.gives s (m.Number k) | false ↦ rest ] ]

chosen_is : (s : store.Store) (k : ℤ) (nil here : Bool) (rest : model.LibAnswer) (r : Option ℤ) → rest ≡ core.gives s (found_value r) → chosen s k nil here rest ≡ core.gives s (found_value (cond nil None (cond here (Some k) r)))
unfolding chosen found_value
chosen_is s k true here rest r h = refl
chosen_is s k false true rest r h = refl
chosen_is s k false false rest r h = h

module _ (w : LibWorld) (world : IsWorld w) (t : TableId) (may : MayUseIn w (value.Table t)) where
  pub find_is : (args : List m.Value) (a : ℤ) → ((go : TableRef → model.LibAnswer) → table_argument builtin.TableFind 0 args go ≡ go (table_ref t)) → a ≡ pos 1 → rows.find_row args (store_in w) ≡ any_at builtin.TableFind 1 args (λ v. number_or builtin.TableFind 2 args a (rows.finds (length (table_at w.arena t).entries) (store_in w) (table_of w.names (table_at w.arena t)) v))
  find_is args a look one =
      let s = store_in w in
      let rest = λ (u : store.TableOf) (n : ℕ) (a : ℤ). any_at builtin.TableFind 1 args (λ v. number_or builtin.TableFind 2 args a (rows.finds n s u v)) in
      look (λ t. rest (store.table_at s t) (length (store.table_at s t).entries) (pos 1))
      ∙ ap (λ (u : store.TableOf). rest u (length u.entries) (pos 1)) (table_is w world t may)
      ∙ ap (λ n. rest (table_of w.names (table_at w.arena t)) n (pos 1)) (length-map (table_at w.arena t).entries (pair_of w.names))
      ∙ ap (λ a. rest (table_of w.names (table_at w.arena t)) (length (table_at w.arena t).entries) a) (sym one)

  finds_is : (n : ℕ) (v : Value) (k : ℤ) → MayUseIn w v → rows.finds n (store_in w) (table_of w.names (table_at w.arena t)) (meant w.names v) k ≡ core.gives (store_in w) (found_value (found n (table_at w.arena t) v k))
  unfolding chosen found_value
  finds_is zero v k h = refl
  finds_is (suc n) v k h =
      let s = store_in w in
      let u = table_at w.arena t in
      let d = world.own.interned.distinct in
      let own = scripts w world t may in
      let x = item u k in
      let rest = rows.finds n s (table_of w.names u) (meant w.names v) (k +ℤ pos 1) in
      ap (λ y. chosen s k (tables.is_nil y) (tables.same y (meant w.names v)) rest) (kept.item_kept w.names w.owner d u k own)
      ∙ ap (λ b. chosen s k b (tables.same (meant w.names x) (meant w.names v)) rest) (nil_kept w.names x)
      ∙ ap (λ b. chosen s k (is_nil x) b rest) (same_kept w.names w.owner d x v (kept.item_holds (IsOfScript w.names w.owner) tt (λ z. tt) u k own) (own_value w.names w.globals w.arena w.owner world.own v h))
      ∙ chosen_is s k (is_nil x) (same x v) rest (found n u v (k +ℤ pos 1)) (finds_is n v (k +ℤ pos 1) h)

  pub some_found : (n : ℕ) (v : Value) (k z : ℤ) (rs rs' : List Value) (result : Result (Unit {0}) Ending) → MayUseIn w v → Some z ≡ found n (table_at w.arena t) v k → Gives rs rs' (value.Num z ∷ []) result → Runs w w rs rs' result (rows.finds n (store_in w) (table_of w.names (table_at w.arena t)) (meant w.names v) k)
  unfolding meant found_value
  some_found n v k z rs rs' result h e given =
      gives_runs w w rs rs' (value.Num z ∷ []) result _ given ((tt, tt), tt) (finds_is n v k h ∙ ap (λ r. core.gives (store_in w) (found_value r)) (sym e))

  pub none_found : (n : ℕ) (v : Value) (k : ℤ) (rs rs' : List Value) (result : Result (Unit {0}) Ending) → MayUseIn w v → None ≡ found n (table_at w.arena t) v k → Gives rs rs' (value.Nil ∷ []) result → Runs w w rs rs' result (rows.finds n (store_in w) (table_of w.names (table_at w.arena t)) (meant w.names v) k)
  unfolding meant found_value
  none_found n v k rs rs' result h e given =
      gives_runs w w rs rs' (value.Nil ∷ []) result _ given ((tt, tt), tt) (finds_is n v k h ∙ ap (λ r. core.gives (store_in w) (found_value r)) (sym e))

pub found_at : (r : Option ℤ) (m n : ℕ) (t u : TableView) (v : Value) (k : ℤ) → r ≡ found m t v k → m ≡ n → t ≡ u → r ≡ found n u v k
found_at r m n t u v k h e f = h ∙ ap (λ m. found m t v k) e ∙ ap (λ t. found n t v k) f
