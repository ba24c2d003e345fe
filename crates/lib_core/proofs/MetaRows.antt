-- Metatables and what they say, as they are kept and as they are meant.
use Rattle.std.proofs.Common.{◌≡◌, Bool, true, false, not, cond, List, [], ◌∷◌, codes, Option, Some, None, Result, refl, sym, ◌∙◌, ap, subst}
use Rattle.std.specs.Prelude.{option_map}
use Rattle.value_model.specs.Answers as answer
use Rattle.value_model.specs.Arguments as row
use Rattle.value_model.specs.CoreRows as core
use Rattle.value_model.specs.Errors as error
use Rattle.value_model.specs.Metamethods.{said_by}
use Rattle.value_model.specs.Parts.{meant, meant_error, table_ref}
use Rattle.value_model.specs.Store as store
use Rattle.value_model.specs.Tables as model
use Rattle.value_model.specs.Values as m
use Rattle.value_model.specs.Values.{Bytes}
use Rattle.value_model.specs.declared.builtin.Builtin.TheVariants as builtin
use Rattle.value_model.specs.declared.error.RunErr.TheVariants as err
use Rattle.value_model.specs.declared.ids.TableId.{TableId}
use Rattle.value_model.specs.declared.value.Value.{Value}
use Rattle.value_model.specs.declared.value.Value.TheVariants as value
use Rattle.value_arena.specs.Arenas.{ArenaView, table_at, with_table}
use Rattle.value_arena.specs.Tables.{is_nil}
use Rattle.value_arena.proofs.Growing.{with_table_grows}
use Rattle.luau_tables.specs.Part.{OfSome}
use Rattle.luau_tables.specs.Worlds.{IsWorld, Keeps, MayUseIn, store_in}
use Rattle.luau_tables.specs.declared.globals.LibWorld.{LibWorld}
use Rattle.luau_tables.proofs.OwnTables.{meta_part, frozen_part}
use Rattle.luau_tables.proofs.OwnKept.{meta_own, meta_changes, meta_part_set, usable_on}
use Rattle.luau_tables.proofs.Sameness.{nil_kept}
use Rattle.lib_arguments.specs.Checks.{Fails}
use Rattle.lib_arguments.specs.Rows.{Runs, Gives}
use Rattle.lib_arguments.specs.declared.ending.Ending.{Ending}
use Rattle.lib_arguments.specs.declared.ending.Ending.TheVariants.{RunError}
use Rattle.lib_arguments.proofs.ArenaKept.{with_arena, arena_kept}
use Rattle.lib_arguments.proofs.RowsRun.{gives_runs}
use Rattle.lib_core.specs.MetaGiven.{meta_row}

module _ (w : LibWorld) (world : IsWorld w) where
  -- ---- what is shown of a metatable

  pub shows_table : (m : TableId) (meta : Option TableId) (hidden : Value) → meta ≡ Some m → hidden ≡ value.Nil → meant w.names hidden ≡ said_by (store_in w) (Some (table_ref m)) (codes "__metatable") →
      meant w.names (value.Table m) ≡ core.metatable_value (store_in w) (option_map table_ref meta)
  unfolding meant
  shows_table m meta hidden e n says =
      ap (λ v. core.shown_metatable (table_ref m) (meant w.names v)) (sym n)
      ∙ ap (core.shown_metatable (table_ref m)) says
      ∙ ap (λ o. core.metatable_value (store_in w) (option_map table_ref o)) (sym e)

  pub shows_hidden : (m : TableId) (meta : Option TableId) (hidden : Value) → meta ≡ Some m → (hidden ≡ value.Nil → ⊥) → meant w.names hidden ≡ said_by (store_in w) (Some (table_ref m)) (codes "__metatable") →
      meant w.names hidden ≡ core.metatable_value (store_in w) (option_map table_ref meta)
  unfolding meant
  shows_hidden m meta hidden e some says =
      by hidden some
      ∙ ap (core.shown_metatable (table_ref m)) says
      ∙ ap (λ o. core.metatable_value (store_in w) (option_map table_ref o)) (sym e)
    where
      by : (v : Value) → (v ≡ value.Nil → ⊥) → meant w.names v ≡ core.shown_metatable (table_ref m) (meant w.names v)
      by value.Nil some = absurd (some refl)
      by _ some = refl

  pub shows_none : (meta : Option TableId) → meta ≡ None → meant w.names value.Nil ≡ core.metatable_value (store_in w) (option_map table_ref meta)
  unfolding meant
  shows_none meta e = ap (λ o. core.metatable_value (store_in w) (option_map table_ref o)) (sym e)

  -- ---- `setmetatable`

  pub protected_is : (t : TableId) (meta : Option TableId) (hidden : Value) → MayUseIn w (value.Table t) → meta ≡ (table_at w.arena t).meta → meant w.names hidden ≡ said_by (store_in w) (option_map table_ref meta) (codes "__metatable") →
      not (is_nil hidden) ≡ core.is_protected (store_in w) (table_ref t)
  protected_is t meta hidden h e says =
      ap not (sym (nil_kept w.names hidden))
      ∙ ap (λ v. not (model.is_nil v)) (says ∙ ap (λ o. said_by (store_in w) o (codes "__metatable")) (ap (option_map table_ref) e ∙ sym (meta_part w.names w.globals w.arena w.owner world.own t h)))

  pub meta_to : (t : m.TableRef) (v : m.Value) → core.set_meta_to (store_in w) t v ≡ meta_row v (core.with_meta (store_in w) t)
  meta_to t m.Nil = refl
  meta_to t _ = refl

  pub meta_fails : (t : m.TableRef) (v : m.Value) (e : Ending) → Fails w.names (meta_row v (core.with_meta (store_in w) t)) e → Fails w.names (core.set_meta_to (store_in w) t v) e
  meta_fails t v e h = subst (λ row. Fails w.names row e) (sym (meta_to t v)) h

  pub meta_runs : (t : m.TableRef) (v : m.Value) (after : LibWorld) (rs rs' : List Value) (result : Result (Unit {0}) Ending) → Runs w after rs rs' result (meta_row v (core.with_meta (store_in w) t)) → Runs w after rs rs' result (core.set_meta_to (store_in w) t v)
  meta_runs t v after rs rs' result h = subst (λ row. Runs w after rs rs' result row) (sym (meta_to t v)) h

  module _ (t : TableId) (meta : Option m.TableRef) where
    pub protected_fails : core.is_protected (store_in w) (table_ref t) ≡ true → Fails w.names (core.with_meta (store_in w) (table_ref t) meta) (RunError err.ProtectedMetatable)
    unfolding meant_error
    protected_fails p = (ap (λ b. cond b (answer.ErrsWith error.ProtectedMetatable) (core_rest t meta)) p, tt)
      where
        core_rest : TableId → Option m.TableRef → answer.LibAnswer
        core_rest t meta =
            cond (store.table_at (store_in w) (table_ref t)).frozen (answer.ErrsWith error.ReadonlyTable)
            (answer.Answers (m.Table (table_ref t) ∷ []) (store.with_table (store_in w) (table_ref t) (record (store.table_at (store_in w) (table_ref t)) { meta = meta })))

    by_bits : (p f : Bool) → core.is_protected (store_in w) (table_ref t) ≡ p → MayUseIn w (value.Table t) → (table_at w.arena t).is_frozen ≡ f →
        core.with_meta (store_in w) (table_ref t) meta
        ≡ cond p (answer.ErrsWith error.ProtectedMetatable) (cond f (answer.ErrsWith error.ReadonlyTable) (answer.Answers (m.Table (table_ref t) ∷ []) (store.with_table (store_in w) (table_ref t) (record (store.table_at (store_in w) (table_ref t)) { meta = meta }))))
    by_bits p f e h k =
        let done = answer.Answers (m.Table (table_ref t) ∷ []) (store.with_table (store_in w) (table_ref t) (record (store.table_at (store_in w) (table_ref t)) { meta = meta })) in
        ap (λ b. cond b (answer.ErrsWith error.ProtectedMetatable) (cond (store.table_at (store_in w) (table_ref t)).frozen (answer.ErrsWith error.ReadonlyTable) done)) e
        ∙ ap (λ b. cond p (answer.ErrsWith error.ProtectedMetatable) (cond b (answer.ErrsWith error.ReadonlyTable) done)) (frozen_part w.names w.globals w.arena w.owner world.own t h ∙ k)

    pub frozen_fails : core.is_protected (store_in w) (table_ref t) ≡ false → MayUseIn w (value.Table t) → (table_at w.arena t).is_frozen ≡ true → Fails w.names (core.with_meta (store_in w) (table_ref t) meta) (RunError err.ReadonlyTable)
    unfolding meant_error
    frozen_fails p h f = (by_bits false true p h f, tt)

  module _ (t : TableId) (meta : Option TableId) (a : ArenaView) (table : MayUseIn w (value.Table t)) (thawed : (table_at w.arena t).is_frozen ≡ false) (used : OfSome (λ m. MayUseIn w (value.Table m)) meta) (set : a ≡ with_table w.arena t (record (table_at w.arena t) { meta = meta })) where
    pub meta_keeps : Keeps w (with_arena w a)
    meta_keeps =
        subst (λ a. Keeps w (with_arena w a)) (sym set)
        (arena_kept w _ world (meta_own w.names w.globals w.arena w.owner world.own t meta table thawed used) (meta_changes w.names w.globals w.arena w.owner world.own t meta table thawed))

    pub meta_gives : (rs rs' : List Value) (result : Result (Unit {0}) Ending) → core.is_protected (store_in w) (table_ref t) ≡ false → Gives rs rs' (value.Table t ∷ []) result →
        Runs w (with_arena w a) rs rs' result (core.with_meta (store_in w) (table_ref t) (option_map table_ref meta))
    unfolding meant
    meta_gives rs rs' result p gives =
        gives_runs w (with_arena w a) rs rs' (value.Table t ∷ []) result _ gives
        (subst (λ a. MayUseIn (with_arena w a) (value.Table t)) (sym set) (usable_on w.names w.arena _ w.owner (value.Table t) (with_table_grows w.arena t (record (table_at w.arena t) { meta = meta })) table), tt)
        (by_bits t (option_map table_ref meta) false false p table thawed
        ∙ ap (λ s. answer.Answers (m.Table (table_ref t) ∷ []) s) (sym (ap (λ a. store_in (with_arena w a)) set ∙ meta_part_set w.names w.globals w.arena w.owner world.own t meta table)))

-- ---- the second argument of `setmetatable`

pub nil_given : (texts : List Bytes) (v : Value) → v ≡ value.Nil → (go : Option m.TableRef → answer.LibAnswer) → meta_row (meant texts v) go ≡ go None
unfolding meant
nil_given texts v e go = ap (λ v. meta_row (meant texts v) go) e

not_nil : (texts : List Bytes) (v : Value) → (v ≡ value.Nil → ⊥) → (go : Option m.TableRef → answer.LibAnswer) →
    meta_row (meant texts v) go ≡ row.table_from builtin.Setmetatable 1 (meant texts v) (λ m. go (Some m))
unfolding meant
not_nil texts value.Nil some go = absurd (some refl)
not_nil texts _ some go = refl

module _ (texts : List Bytes) (v : Value) (some : v ≡ value.Nil → ⊥) where
  pub table_given : (t : TableId) → ((go : m.TableRef → answer.LibAnswer) → row.table_from builtin.Setmetatable 1 (meant texts v) go ≡ go (table_ref t)) →
      (go : Option m.TableRef → answer.LibAnswer) → meta_row (meant texts v) go ≡ go (Some (table_ref t))
  table_given t h go = not_nil texts v some go ∙ h (λ m. go (Some m))

  pub none_given : (e : Ending) → ((go : m.TableRef → answer.LibAnswer) → Fails texts (row.table_from builtin.Setmetatable 1 (meant texts v) go) e) →
      (go : Option m.TableRef → answer.LibAnswer) → Fails texts (meta_row (meant texts v) go) e
  none_given e h go = subst (λ row. Fails texts row e) (sym (not_nil texts v some go)) (h (λ m. go (Some m)))

pub given_usable : (w : LibWorld) (v : Value) (meta : Option TableId) → OfSome (λ m. v ≡ value.Table m) meta → MayUseIn w v → OfSome (λ m. MayUseIn w (value.Table m)) meta
given_usable w v None h used = tt
given_usable w v (Some m) h used = subst (MayUseIn w) h used
