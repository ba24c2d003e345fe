-- Rows that read or change a table, by the tables and values of the script.
use Rattle.std.proofs.Common.{◌≡◌, Bool, true, false, List, [], ◌∷◌, map, Result, Ok, refl, sym, ◌∙◌, ap, subst}
use Rattle.std.proofs.lemmas.List.{append-nil}
use Rattle.std.specs.List.{AllByRecursion}
use Rattle.std.specs.Prelude.{if◌then◌else◌}
use Rattle.value_model.specs.Answers as model
use Rattle.value_model.specs.CoreRows as core
use Rattle.value_model.specs.Errors as error
use Rattle.value_model.specs.Parts.{meant, meant_error, table_ref}
use Rattle.value_model.specs.Store as store
use Rattle.value_model.specs.TableRows as rows
use Rattle.value_model.specs.Values as m
use Rattle.value_model.specs.declared.error.RunErr.TheVariants.{ReadonlyTable}
use Rattle.value_model.specs.declared.ids.TableId.{TableId}
use Rattle.value_model.specs.declared.value.Value.{Value}
use Rattle.value_model.specs.declared.value.Value.TheVariants as value
use Rattle.value_arena.specs.Arenas.{ArenaView, table_at, with_table}
use Rattle.value_arena.specs.Tables.{TableView}
use Rattle.luau_tables.specs.Part.{table_of, OfTable, IsOfScript}
use Rattle.luau_tables.specs.Worlds.{IsWorld, Keeps, MayUseIn, store_in}
use Rattle.luau_tables.specs.declared.globals.LibWorld.{LibWorld}
use Rattle.luau_tables.proofs.OwnKept.{changed_part}
use Rattle.luau_tables.proofs.OwnTables.{seen_table, usable_table, own_table, table_part}
use Rattle.luau_tables.proofs.WorldsKept.{all_use_on, may_use_on, table_keeps, freeze_keeps, freeze_store, frozen_store}
use Rattle.lib_arguments.specs.Checks.{Fails}
use Rattle.lib_arguments.specs.Rows.{Runs, Gives}
use Rattle.lib_arguments.specs.declared.ending.Ending.{Ending}
use Rattle.lib_arguments.specs.declared.ending.Ending.TheVariants.{RunError}
use Rattle.lib_arguments.proofs.RowsRun.{gives_runs}
use Rattle.table_lists.specs.Lists.{cleared}
use Rattle.table_lists.proofs.Kept.{cleared_holds, cleared_kept}

abbrev pub with_arena : LibWorld → ArenaView → LibWorld
with_arena w a = record w { arena = a }

-- the world with a table changed
abbrev pub with_changed : LibWorld → TableId → TableView → LibWorld
with_changed w t x = with_arena w (with_table w.arena t x)

module _ (w : LibWorld) (world : IsWorld w) (t : TableId) (may : MayUseIn w (value.Table t)) where
  -- the table that is meant
  pub table_is : store.table_at (store_in w) (table_ref t) ≡ table_of w.names (table_at w.arena t)
  table_is = table_part w.names w.globals w.arena w.owner world.own t may

  pub usable : OfTable (MayUseIn w) (table_at w.arena t)
  usable = usable_table w.names w.globals w.arena w.owner world.own t (seen_table w.names w.globals w.arena w.owner world.own t may)

  pub scripts : OfTable (IsOfScript w.names w.owner) (table_at w.arena t)
  scripts = own_table w.names w.globals w.arena w.owner world.own t (seen_table w.names w.globals w.arena w.owner world.own t may)

  -- ---- frozen tables

  pub isfrozen_gives : (rs rs' : List Value) (result : Result (Unit {0}) Ending) (b : Bool) → b ≡ (table_at w.arena t).is_frozen → Gives rs rs' (value.Bool b ∷ []) result → Runs w w rs rs' result (core.gives (store_in w) (m.Boolean (store.table_at (store_in w) (table_ref t)).frozen))
  unfolding meant
  isfrozen_gives rs rs' result b e given =
      gives_runs w w rs rs' (value.Bool b ∷ []) result _ given ((tt, tt), tt)
      (ap (λ b. core.gives (store_in w) (m.Boolean b)) (frozen_store w world t may ∙ sym e))

  pub frozen_fails : (go : model.LibAnswer) → (table_at w.arena t).is_frozen ≡ true → Fails w.names (rows.unless_frozen (store_in w) (table_ref t) go) (RunError ReadonlyTable)
  unfolding meant_error
  frozen_fails go e = (ap (λ b. if b then model.ErrsWith error.ReadonlyTable else go) (frozen_store w world t may ∙ e), tt)

  pub thawed_is : (go : model.LibAnswer) → (table_at w.arena t).is_frozen ≡ false → rows.unless_frozen (store_in w) (table_ref t) go ≡ go
  thawed_is go e = ap (λ b. if b then model.ErrsWith error.ReadonlyTable else go) (frozen_store w world t may ∙ e)

  freeze_gives : (rs rs' : List Value) (result : Result (Unit {0}) Ending) → Gives rs rs' (value.Table t ∷ []) result → Runs w (with_changed w t (record (table_at w.arena t) { is_frozen = true })) rs rs' result (rows.changed (store_in w) (table_ref t) (m.Table (table_ref t) ∷ []) (record (store.table_at (store_in w) (table_ref t)) { frozen = true }))
  unfolding meant
  freeze_gives rs rs' result given =
      gives_runs w (with_changed w t (record (table_at w.arena t) { is_frozen = true })) rs rs' (value.Table t ∷ []) result _ given
      (may_use_on w (with_changed w t (record (table_at w.arena t) { is_frozen = true })) (freeze_keeps w world t may) (value.Table t) may, tt)
      (ap (λ s. model.Answers (m.Table (table_ref t) ∷ []) s) (sym (freeze_store w world t may)))

  pub freeze_runs : (a : ArenaView) (rs rs' : List Value) (result : Result (Unit {0}) Ending) → a ≡ with_table w.arena t (record (table_at w.arena t) { is_frozen = true }) → Gives rs rs' (value.Table t ∷ []) result → Runs w (with_arena w a) rs rs' result (rows.changed (store_in w) (table_ref t) (m.Table (table_ref t) ∷ []) (record (store.table_at (store_in w) (table_ref t)) { frozen = true }))
  freeze_runs a rs rs' result e given =
      subst (λ (a : ArenaView). Runs w (with_arena w a) rs rs' result (rows.changed (store_in w) (table_ref t) (m.Table (table_ref t) ∷ []) (record (store.table_at (store_in w) (table_ref t)) { frozen = true }))) (sym e) (freeze_gives rs rs' result given)

  -- ---- a table that is not frozen is changed

  pub changed_keeps : (x : TableView) → (table_at w.arena t).is_frozen ≡ false → x.is_marked ≡ (table_at w.arena t).is_marked → OfTable (MayUseIn w) x → Keeps w (with_changed w t x)
  changed_keeps x thawed mark new = table_keeps w world t x may thawed mark new

  pub changed_runs : (x : TableView) (rs rs' given : List Value) (result : Result (Unit {0}) Ending) → Keeps w (with_changed w t x) → AllByRecursion (MayUseIn w) given → Gives rs rs' given result → Runs w (with_changed w t x) rs rs' result (rows.changed (store_in w) (table_ref t) (map (meant w.names) given) (table_of w.names x))
  changed_runs x rs rs' given result keeps used gives =
      gives_runs w (with_changed w t x) rs rs' given result _ gives
      (all_use_on w (with_changed w t x) keeps given used)
      (ap (λ s. model.Answers (map (meant w.names) given) s) (sym (changed_part w.names w.globals w.arena w.owner world.own t x may)))

  -- ---- `clear`

  clear_keeps_it : (table_at w.arena t).is_frozen ≡ false → Keeps w (with_changed w t (cleared (table_at w.arena t)))
  clear_keeps_it thawed = changed_keeps (cleared (table_at w.arena t)) thawed refl (cleared_holds (MayUseIn w) (tt, tt) (λ z. (tt, tt)) (table_at w.arena t) usable)

  pub clear_keeps : (x : TableView) → x ≡ cleared (table_at w.arena t) → (table_at w.arena t).is_frozen ≡ false → Keeps w (with_changed w t x)
  clear_keeps x is thawed = subst (λ (x : TableView). Keeps w (with_changed w t x)) (sym is) (clear_keeps_it thawed)

  pub clear_runs : (x : TableView) (rs : List Value) → x ≡ cleared (table_at w.arena t) → (table_at w.arena t).is_frozen ≡ false → Runs w (with_changed w t x) rs rs (Ok tt) (rows.unless_frozen (store_in w) (table_ref t) (rows.changed (store_in w) (table_ref t) [] (rows.cleared (store.table_at (store_in w) (table_ref t)))))
  clear_runs x rs is thawed =
      let t' = rows.changed (store_in w) (table_ref t) [] in
      let now = sym (cleared_kept w.names (table_at w.arena t)) ∙ ap rows.cleared (sym table_is) in
      subst (λ row. Runs w (with_changed w t x) rs rs (Ok tt) row) (ap t' (ap (table_of w.names) is ∙ now) ∙ sym (thawed_is (t' (rows.cleared (store.table_at (store_in w) (table_ref t)))) thawed))
      (changed_runs x rs rs [] (Ok tt) (clear_keeps x is thawed) tt (sym (append-nil rs)))
