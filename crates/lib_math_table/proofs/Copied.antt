-- A table that has what another has.
use Rattle.std.proofs.Common.{◌≡◌, ℕ, zero, suc, Bool, true, false, not, cond, List, [], ◌∷◌, map, filter, take, Option, Some, None, refl, ◌∙◌, ap}
use Rattle.std.specs.Prelude.{if◌then◌else◌}
use Rattle.value_model.specs.Answers as model
use Rattle.value_model.specs.CoreRows as core
use Rattle.value_model.specs.Errors as error
use Rattle.value_model.specs.Parts.{meant_error, table_ref}
use Rattle.value_model.specs.Store as store
use Rattle.value_model.specs.StringRows as string
use Rattle.value_model.specs.TableRows as rows
use Rattle.value_model.specs.Tables as tables
use Rattle.value_model.specs.Values.{Bytes}
use Rattle.value_model.specs.declared.error.RunErr.TheVariants.{ProtectedMetatable}
use Rattle.value_model.specs.declared.ids.TableId.{TableId}
use Rattle.value_model.specs.declared.value.Value.{Value}
use Rattle.value_model.specs.declared.value.Value.TheVariants as value
use Rattle.value_arena.specs.Arenas.{HasTable, table_at, new_table, next_table}
use Rattle.value_arena.specs.Tables.{Entries, TableView, no_table, is_nil}
use Rattle.luau_tables.specs.Part.{pair_of, table_of, OfPairs, OfSome}
use Rattle.luau_tables.specs.Worlds.{IsWorld, Keeps, MayUseIn, store_in}
use Rattle.luau_tables.specs.declared.globals.LibWorld.{LibWorld}
use Rattle.luau_tables.proofs.Sameness.{nil_kept}
use Rattle.luau_tables.proofs.WorldsKept.{may_use_on, new_table_keeps}
use Rattle.lib_arguments.specs.Checks.{Fails}
use Rattle.lib_arguments.specs.declared.ending.Ending.TheVariants.{RunError}
use Rattle.table_lists.specs.Lists.{filled}
use Rattle.lib_math_table.proofs.Changes.{usable, table_is}
use Rattle.lib_math_table.proofs.Made.{with_new, made, filled_keeps}

-- a new table with entries and a metatable
abbrev pub table_with : Entries → Option TableId → TableView
table_with es meta = record no_table { entries = es; meta = meta }

-- ---- the copy that is meant

filled_kept : (texts : List Bytes) (es : Entries) → filter (λ e. not (tables.is_nil e.1)) (map (pair_of texts) es) ≡ map (pair_of texts) (filled es)
filled_kept texts [] = refl
filled_kept texts (e ∷ es) =
    let rest = filter (λ e. not (tables.is_nil e.1)) (map (pair_of texts) es) in
    ap (λ b. cond (not b) (pair_of texts e ∷ rest) rest) (nil_kept texts e.1)
    ∙ ap (λ l. cond (not (is_nil e.1)) (pair_of texts e ∷ l) l) (filled_kept texts es)
    ∙ by (is_nil e.1)
  where
    by : (b : Bool) → cond (not b) (pair_of texts e ∷ map (pair_of texts) (filled es)) (map (pair_of texts) (filled es))
        ≡ map (pair_of texts) (cond (not b) (e ∷ filled es) (filled es))
    by true = refl
    by false = refl

copy_kept : (texts : List Bytes) (t : TableView) → rows.copy_of (table_of texts t) ≡ table_of texts (table_with (filled t.entries) t.meta)
copy_kept texts t = ap (λ es. record (table_of texts (table_with (filled t.entries) t.meta)) { entries = es }) (filled_kept texts t.entries)

pub copy_is : (w : LibWorld) (world : IsWorld w) (t : TableId) (may : MayUseIn w (value.Table t)) →
    rows.copy_of (store.table_at (store_in w) (table_ref t)) ≡ table_of w.names (table_with (filled (table_at w.arena t).entries) (table_at w.arena t).meta)
copy_is w world t may = ap rows.copy_of (table_is w world t may) ∙ copy_kept w.names (table_at w.arena t)

-- ---- what it holds

module _ (P : Value → Type 0) where
  filled_hold : (es : Entries) → OfPairs P es → OfPairs P (filled es)
  filled_hold [] h = tt
  filled_hold (e ∷ es) h = by (is_nil e.1) (filled_hold es h.2)
    where
      by : (b : Bool) → OfPairs P (filled es) → OfPairs P (cond (not b) (e ∷ filled es) (filled es))
      by true rest = rest
      by false rest = (h.0, h.1, rest)

  take_hold : (n : ℕ) (es : Entries) → OfPairs P es → OfPairs P (take n es)
  take_hold zero es h = tt
  take_hold (suc n) [] h = tt
  take_hold (suc n) (e ∷ es) h = (h.0, h.1, take_hold n es h.2)

  module _ (Q : Value → Type 0) (on : (v : Value) → P v → Q v) where
    pub pairs_on : (es : Entries) → OfPairs P es → OfPairs Q es
    pairs_on [] h = tt
    pairs_on (e ∷ es) h = (on e.0 h.0, on e.1 h.1, pairs_on es h.2)

    pub some_on : (m : Option TableId) → OfSome (λ m. P (value.Table m)) m → OfSome (λ m. Q (value.Table m)) m
    some_on None h = tt
    some_on (Some m) h = on (value.Table m) h

-- ---- the world with it

module _ (w : LibWorld) (world : IsWorld w) (there : HasTable (new_table w.arena w.owner) (next_table w.arena w.owner)) (t : TableId)
    (may : MayUseIn w (value.Table t)) where
  used : OfPairs (MayUseIn (with_new w)) (filled (table_at w.arena t).entries)
  used =
      pairs_on (MayUseIn w) (MayUseIn (with_new w)) (may_use_on w (with_new w) (new_table_keeps w world)) (filled (table_at w.arena t).entries)
      (filled_hold (MayUseIn w) (table_at w.arena t).entries (usable w world t may).entries)

  pub copy_keeps : Keeps (with_new w) (made w (table_with (filled (table_at w.arena t).entries) (table_at w.arena t).meta))
  copy_keeps =
      filled_keeps w world there (table_with (filled (table_at w.arena t).entries) (table_at w.arena t).meta) refl
      (record {
        entries = used;
        meta = some_on (MayUseIn w) (MayUseIn (with_new w)) (may_use_on w (with_new w) (new_table_keeps w world)) (table_at w.arena t).meta
            (usable w world t may).meta;
      })

  pub begun_keeps : (n : ℕ) → Keeps (with_new w) (made w (table_with (take n (filled (table_at w.arena t).entries)) None))
  begun_keeps n =
      filled_keeps w world there (table_with (take n (filled (table_at w.arena t).entries)) None) refl
      (record { entries = take_hold (MayUseIn (with_new w)) n (filled (table_at w.arena t).entries) used; meta = tt })

-- ---- a table that is protected, and one that is not

cloned : LibWorld → TableId → Bool → model.LibAnswer
cloned w t b = if b then model.ErrsWith error.ProtectedMetatable else string.new_table (store_in w) (rows.copy_of (store.table_at (store_in w) (table_ref t)))

pub clone_fails : (w : LibWorld) (t : TableId) → core.is_protected (store_in w) (table_ref t) ≡ true →
    Fails w.names (rows.clones (store_in w) (table_ref t)) (RunError ProtectedMetatable)
unfolding cloned meant_error
clone_fails w t e = (ap (cloned w t) e, tt)

pub clone_goes_on : (w : LibWorld) (t : TableId) → core.is_protected (store_in w) (table_ref t) ≡ false →
    rows.clones (store_in w) (table_ref t) ≡ string.new_table (store_in w) (rows.copy_of (store.table_at (store_in w) (table_ref t)))
unfolding cloned
clone_goes_on w t e = ap (cloned w t) e
