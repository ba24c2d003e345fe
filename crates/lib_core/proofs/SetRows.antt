-- What the row of `rawset` gives, and what it leaves.
use Rattle.std.proofs.Common.{◌≡◌, Bool, true, false, cond, List, [], ◌∷◌, Result, Ok, Err, refl, sym, ◌∙◌, ap, subst}
use Rattle.value_model.specs.Answers as answer
use Rattle.value_model.specs.CoreRows as core
use Rattle.value_model.specs.Errors as error
use Rattle.value_model.specs.Parts.{meant, meant_error, table_ref}
use Rattle.value_model.specs.Store as store
use Rattle.value_model.specs.Tables as model
use Rattle.value_model.specs.Values as m
use Rattle.value_model.specs.declared.error.RunErr.TheVariants as err
use Rattle.value_model.specs.declared.ids.TableId.{TableId}
use Rattle.value_model.specs.declared.value.Value.{Value}
use Rattle.value_model.specs.declared.value.Value.TheVariants as value
use Rattle.value_arena.specs.Arenas.{ArenaView, table_at, with_table}
use Rattle.value_arena.specs.Tables.{is_nil}
use Rattle.value_arena.proofs.Growing.{with_table_grows}
use Rattle.luau_tables.specs.Rules as rule
use Rattle.luau_tables.specs.Worlds.{IsWorld, Keeps, MayUseIn, store_in}
use Rattle.luau_tables.specs.declared.globals.LibWorld.{LibWorld}
use Rattle.luau_tables.proofs.OwnKept.{put_own, put_changes, put_part, usable_on}
use Rattle.luau_tables.proofs.OwnTables.{frozen_part}
use Rattle.luau_tables.proofs.Sameness.{nil_kept}
use Rattle.lib_arguments.specs.Checks.{Fails}
use Rattle.lib_arguments.specs.Rows.{Runs, Gives}
use Rattle.lib_arguments.specs.declared.ending.Ending.{Ending}
use Rattle.lib_arguments.specs.declared.ending.Ending.TheVariants.{RunError}
use Rattle.lib_arguments.proofs.ArenaKept.{with_arena, arena_kept}
use Rattle.lib_arguments.proofs.NamesKept.{keeps_self}
use Rattle.lib_arguments.proofs.RowsRun.{gives_runs, ends_runs}

module _ (w : LibWorld) (world : IsWorld w) (t : TableId) (key v : Value) (table : MayUseIn w (value.Table t)) where
  set_by : (frozen nil : Bool) → (table_at w.arena t).is_frozen ≡ frozen → is_nil key ≡ nil →
      model.set (store.table_at (store_in w) (table_ref t)) (meant w.names key) (meant w.names v)
      ≡ cond frozen (Err error.ReadonlyTable) (cond nil (Err error.NilKey) (Ok (model.put (store.table_at (store_in w) (table_ref t)) (meant w.names key) (meant w.names v))))
  unfolding model.set
  set_by frozen nil f n =
      let put : Result store.TableOf error.RunError = Ok (model.put (store.table_at (store_in w) (table_ref t)) (meant w.names key) (meant w.names v)) in
      ap (λ b. cond b (Err error.ReadonlyTable) (cond (model.is_nil (meant w.names key)) (Err error.NilKey) put)) (frozen_part w.names w.globals w.arena w.owner world.own t table ∙ f)
      ∙ ap (λ b. cond frozen (Err error.ReadonlyTable) (cond b (Err error.NilKey) put)) (nil_kept w.names key ∙ n)

  pub set_frozen : (vs : List m.Value) → (table_at w.arena t).is_frozen ≡ true → Fails w.names (core.changes (store_in w) (table_ref t) vs (model.set (store.table_at (store_in w) (table_ref t)) (meant w.names key) (meant w.names v))) (RunError err.ReadonlyTable)
  unfolding meant_error
  set_frozen vs f = (ap (λ r. core.changes (store_in w) (table_ref t) vs r) (set_by true (is_nil key) f refl), tt)

  pub set_nil : (vs : List m.Value) → (table_at w.arena t).is_frozen ≡ false → is_nil key ≡ true → Fails w.names (core.changes (store_in w) (table_ref t) vs (model.set (store.table_at (store_in w) (table_ref t)) (meant w.names key) (meant w.names v))) (RunError err.NilKey)
  unfolding meant_error
  set_nil vs f n = (ap (λ r. core.changes (store_in w) (table_ref t) vs r) (set_by false true f n), tt)

  module _ (a : ArenaView) (written : a ≡ with_table w.arena t (rule.put (table_at w.arena t) key v)) (thawed : (table_at w.arena t).is_frozen ≡ false) (used : MayUseIn w key) (given : MayUseIn w v) where
    pub set_keeps : Keeps w (with_arena w a)
    set_keeps =
        subst (λ a. Keeps w (with_arena w a)) (sym written)
        (arena_kept w _ world (put_own w.names w.globals w.arena w.owner world.own t key v table thawed used given) (put_changes w.names w.globals w.arena w.owner world.own t key v table thawed))

    pub set_gives : (rs rs' : List Value) (result : Result (Unit {0}) Ending) → is_nil key ≡ false → Gives rs rs' (value.Table t ∷ []) result →
        Runs w (with_arena w a) rs rs' result (core.changes (store_in w) (table_ref t) (m.Table (table_ref t) ∷ []) (model.set (store.table_at (store_in w) (table_ref t)) (meant w.names key) (meant w.names v)))
    unfolding meant
    set_gives rs rs' result n gives =
        gives_runs w (with_arena w a) rs rs' (value.Table t ∷ []) result _ gives
        (subst (λ a. MayUseIn (with_arena w a) (value.Table t)) (sym written) (usable_on w.names w.arena _ w.owner (value.Table t) (with_table_grows w.arena t (rule.put (table_at w.arena t) key v)) table), tt)
        (ap (λ r. core.changes (store_in w) (table_ref t) (m.Table (table_ref t) ∷ []) r) (set_by false false thawed n)
        ∙ ap (λ s. answer.Answers (m.Table (table_ref t) ∷ []) s) (sym (ap (λ a. store_in (with_arena w a)) written ∙ put_part w.names w.globals w.arena w.owner world.own t key v table used)))

-- a write that was refused leaves the arena
pub arena_left : (w : LibWorld) (a : ArenaView) → IsWorld w → a ≡ w.arena → Keeps w (with_arena w a)
arena_left w a world same = subst (λ a. Keeps w (with_arena w a)) (sym same) (keeps_self w world)

pub refused : (w : LibWorld) (a : ArenaView) (rs : List Value) (e : Ending) (row : answer.LibAnswer) → a ≡ w.arena → Fails w.names row e → Runs w (with_arena w a) rs rs (Err e) row
refused w a rs e row same fails = ends_runs w (with_arena w a) rs e row (ap (λ a. store_in (with_arena w a)) same) fails
