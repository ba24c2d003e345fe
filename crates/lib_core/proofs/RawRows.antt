-- What the rows of raw access give, by the tables and values of the script.
use Rattle.std.proofs.Common.{◌≡◌, Bool, List, [], ◌∷◌, length, slice_get, Some, Result, refl, sym, ◌∙◌, ap, subst, pos}
use Rattle.std.proofs.lemmas.Option.{get_or_from_slice_get}
use Rattle.byte_text.specs.declared.fixed.StrId.{StrId}
use Rattle.value_model.specs.Arguments as row
use Rattle.value_model.specs.CoreRows as core
use Rattle.value_model.specs.Parts.{meant, table_ref}
use Rattle.value_model.specs.Store as store
use Rattle.value_model.specs.Tables as model
use Rattle.value_model.specs.Values as m
use Rattle.value_model.specs.Values.{Bytes}
use Rattle.value_model.specs.declared.builtin.Builtin.TheVariants as builtin
use Rattle.value_model.specs.declared.error.Wanted.TheVariants.{OfKind}
use Rattle.value_model.specs.declared.kind.Kind.TheVariants as kind
use Rattle.value_model.specs.declared.ids.TableId.{TableId}
use Rattle.value_model.specs.declared.value.Value.{Value}
use Rattle.value_model.specs.declared.value.Value.TheVariants as value
use Rattle.value_arena.specs.Arenas.{table_at}
use Rattle.value_arena.specs.Tables.{same}
use Rattle.luau_tables.specs.Rules as rule
use Rattle.luau_tables.specs.Worlds.{IsWorld, MayUseIn, store_in}
use Rattle.luau_tables.specs.declared.globals.LibWorld.{LibWorld}
use Rattle.luau_tables.proofs.OwnTables.{own_value, get_part, got_usable, border_part}
use Rattle.luau_tables.proofs.Sameness.{same_kept}
use Rattle.lib_arguments.specs.Checks.{Fails}
use Rattle.lib_arguments.specs.Rows.{Runs, Gives}
use Rattle.lib_arguments.specs.declared.ending.Ending.{Ending}
use Rattle.lib_arguments.proofs.RowsRun.{gives_runs}

module _ (w : LibWorld) (world : IsWorld w) (rs rs' : List Value) (result : Result (Unit {0}) Ending) where
  pub rawequal_gives : (a b : Value) (r : Bool) → MayUseIn w a → MayUseIn w b → r ≡ same a b → Gives rs rs' (value.Bool r ∷ []) result → Runs w w rs rs' result (core.gives (store_in w) (m.Boolean (model.same (meant w.names a) (meant w.names b))))
  unfolding meant
  rawequal_gives a b r h k e given =
      let own = own_value w.names w.globals w.arena w.owner world.own in
      gives_runs w w rs rs' (value.Bool r ∷ []) result _ given ((tt, tt), tt)
      (ap (λ b. core.gives (store_in w) (m.Boolean b)) (same_kept w.names w.owner world.own.interned.distinct a b (own a h) (own b k) ∙ sym e))

  pub rawget_gives : (t : TableId) (key v : Value) → MayUseIn w (value.Table t) → MayUseIn w key → v ≡ rule.get (table_at w.arena t) key → Gives rs rs' (v ∷ []) result → Runs w w rs rs' result (core.gives (store_in w) (model.get (store.table_at (store_in w) (table_ref t)) (meant w.names key)))
  rawget_gives t key v h k e given =
      gives_runs w w rs rs' (v ∷ []) result _ given (subst (MayUseIn w) (sym e) (got_usable w.names w.globals w.arena w.owner world.own t key h), tt)
      (ap (λ v. core.gives (store_in w) v) (get_part w.names w.globals w.arena w.owner world.own t key h k ∙ ap (meant w.names) (sym e)))

  pub rawlen_table : (t : TableId) (v : Value) → MayUseIn w (value.Table t) → v ≡ value.Table t → Gives rs rs' (value.Num (pos (rule.border (table_at w.arena t))) ∷ []) result →
      Runs w w rs rs' result (core.raw_length (store_in w) (meant w.names v))
  unfolding meant
  rawlen_table t v h e given =
      gives_runs w w rs rs' (value.Num (pos (rule.border (table_at w.arena t))) ∷ []) result _ given ((tt, tt), tt)
      (ap (λ v. core.raw_length (store_in w) (meant w.names v)) e ∙ ap (λ n. core.gives (store_in w) (m.Number (pos n))) (border_part w.names w.globals w.arena w.owner world.own t h))

  pub rawlen_text : (x : StrId) (bs : Bytes) (v : Value) → v ≡ value.Str x → slice_get w.names x.0 ≡ Some bs → Gives rs rs' (value.Num (pos (length bs)) ∷ []) result →
      Runs w w rs rs' result (core.raw_length (store_in w) (meant w.names v))
  unfolding meant
  rawlen_text x bs v e at given =
      gives_runs w w rs rs' (value.Num (pos (length bs)) ∷ []) result _ given ((tt, tt), tt)
      (ap (λ v. core.raw_length (store_in w) (meant w.names v)) e ∙ ap (λ t. core.gives (store_in w) (m.Number (pos (length t)))) (get_or_from_slice_get w.names x.0 bs [] at))

pub no_length : (w : LibWorld) (v : Value) (e : Ending) → ((t : TableId) → v ≡ value.Table t → ⊥) → ((x : StrId) → v ≡ value.Str x → ⊥) → Fails w.names (row.invalid builtin.Rawlen 0 (OfKind kind.Table) (meant w.names v)) e →
    Fails w.names (core.raw_length (store_in w) (meant w.names v)) e
unfolding meant
no_length w (value.Table t) e table text h = absurd (table t refl)
no_length w (value.Str x) e table text h = absurd (text x refl)
no_length w v e table text h = h
