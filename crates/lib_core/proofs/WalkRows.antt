-- What the rows of walks give.
use Rattle.std.proofs.Common.{◌≡◌, ℤ, List, [], ◌∷◌, Option, Some, None, Result, refl, sym, ◌∙◌, ap, subst, pos}
use Rattle.std.specs.Prelude.{option_map}
use Rattle.value_model.specs.Answers as answer
use Rattle.value_model.specs.CoreRows as core
use Rattle.value_model.specs.Parts.{meant, meant_error, table_ref}
use Rattle.value_model.specs.Store as store
use Rattle.value_model.specs.Tables as model
use Rattle.value_model.specs.Values as m
use Rattle.value_model.specs.declared.builtin.Builtin.TheVariants as builtin
use Rattle.value_model.specs.declared.error.RunErr.TheVariants as err
use Rattle.value_model.specs.declared.ids.TableId.{TableId}
use Rattle.value_model.specs.declared.value.Value.{Value}
use Rattle.value_model.specs.declared.value.Value.TheVariants as value
use Rattle.value_arena.specs.Arenas.{table_at}
use Rattle.luau_tables.specs.Part.{OfSome, pair_of}
use Rattle.luau_tables.specs.Rules as rule
use Rattle.luau_tables.specs.Worlds.{IsWorld, MayUseIn, store_in}
use Rattle.luau_tables.specs.declared.globals.LibWorld.{LibWorld}
use Rattle.luau_tables.proofs.OwnTables.{get_part, got_usable, next_part, next_usable}
use Rattle.lib_arguments.specs.Checks.{Fails}
use Rattle.lib_arguments.specs.Rows.{Runs, Gives}
use Rattle.lib_arguments.specs.declared.ending.Ending.{Ending}
use Rattle.lib_arguments.specs.declared.ending.Ending.TheVariants.{RunError}
use Rattle.lib_arguments.proofs.RowsRun.{gives_runs}
use Rattle.lib_core.specs.Items.{GivesItem}

module _ (w : LibWorld) (rs rs' : List Value) (result : Result (Unit {0}) Ending) where
  pub pairs_gives : (t : TableId) → MayUseIn w (value.Table t) → Gives rs rs' (value.Native builtin.Next ∷ value.Table t ∷ value.Nil ∷ []) result →
      Runs w w rs rs' result (answer.Answers (m.Native builtin.Next ∷ m.Table (table_ref t) ∷ m.Nil ∷ []) (store_in w))
  unfolding meant
  pairs_gives t h given = gives_runs w w rs rs' (value.Native builtin.Next ∷ value.Table t ∷ value.Nil ∷ []) result _ given ((tt, tt), (h, ((tt, tt), tt))) refl

  pub ipairs_gives : (t : TableId) (zero : Value) → MayUseIn w (value.Table t) → zero ≡ value.Num (pos 0) → Gives rs rs' (value.Native builtin.IpairsIterator ∷ value.Table t ∷ zero ∷ []) result →
      Runs w w rs rs' result (answer.Answers (m.Native builtin.IpairsIterator ∷ m.Table (table_ref t) ∷ m.Number (pos 0) ∷ []) (store_in w))
  unfolding meant
  ipairs_gives t zero h e given =
      gives_runs w w rs rs' (value.Native builtin.IpairsIterator ∷ value.Table t ∷ value.Num (pos 0) ∷ []) result _
      (subst (λ z. Gives rs rs' (value.Native builtin.IpairsIterator ∷ value.Table t ∷ z ∷ []) result) e given) ((tt, tt), (h, ((tt, tt), tt))) refl

-- the next entry, of a key as it is kept and as it is meant
module _ (w : LibWorld) (world : IsWorld w) (t : TableId) (key : Value) (given : m.Value) (table : MayUseIn w (value.Table t)) (used : MayUseIn w key) (means : meant w.names key ≡ given) where
  next_is : (o : Option (Option (Value × Value))) → rule.next (table_at w.arena t) key ≡ o →
      core.next_answer (store_in w) (model.next_entry (store.table_at (store_in w) (table_ref t)) given) ≡ core.next_answer (store_in w) (option_map (option_map (pair_of w.names)) o)
  next_is o e =
      ap (λ k. core.next_answer (store_in w) (model.next_entry (store.table_at (store_in w) (table_ref t)) k)) (sym means)
      ∙ ap (λ o. core.next_answer (store_in w) o) (next_part w.names w.globals w.arena w.owner world.own t key table used ∙ ap (λ o. option_map (option_map (pair_of w.names)) o) e)

  pub next_gives : (rs rs' : List Value) (result : Result (Unit {0}) Ending) (k v : Value) → rule.next (table_at w.arena t) key ≡ Some (Some (k, v)) → Gives rs rs' (k ∷ v ∷ []) result →
      Runs w w rs rs' result (core.next_answer (store_in w) (model.next_entry (store.table_at (store_in w) (table_ref t)) given))
  next_gives rs rs' result k v e gives =
      let u = subst (OfSome (OfSome (λ e. MayUseIn w e.0 × MayUseIn w e.1))) e (next_usable w.names w.globals w.arena w.owner world.own t key table) in
      gives_runs w w rs rs' (k ∷ v ∷ []) result _ gives (u.0, (u.1, tt)) (next_is (Some (Some (k, v))) e)

  pub walked : (rs rs' : List Value) (result : Result (Unit {0}) Ending) → rule.next (table_at w.arena t) key ≡ Some None → Gives rs rs' (value.Nil ∷ []) result →
      Runs w w rs rs' result (core.next_answer (store_in w) (model.next_entry (store.table_at (store_in w) (table_ref t)) given))
  unfolding meant
  walked rs rs' result e gives = gives_runs w w rs rs' (value.Nil ∷ []) result _ gives ((tt, tt), tt) (next_is (Some None) e)

  pub unknown_key : rule.next (table_at w.arena t) key ≡ None → Fails w.names (core.next_answer (store_in w) (model.next_entry (store.table_at (store_in w) (table_ref t)) given)) (RunError err.UnknownKey)
  unfolding meant_error
  unknown_key e = (next_is None e, tt)

-- an item
pub iterator_gives : (w : LibWorld) → IsWorld w → (rs rs' : List Value) (result : Result (Unit {0}) Ending) (t : TableId) (z k : ℤ) (v : Value) → MayUseIn w (value.Table t) → v ≡ rule.get (table_at w.arena t) (value.Num z) → k ≡ z →
    GivesItem rs rs' k v result → Runs w w rs rs' result (core.item_answer (store_in w) z (model.item (store.table_at (store_in w) (table_ref t)) z))
unfolding meant
iterator_gives w world rs rs' result t z k v table e same gives =
    subst (λ v. Runs w w rs rs' result (core.item_answer (store_in w) z v))
    (ap (meant w.names) e ∙ sym (get_part w.names w.globals w.arena w.owner world.own t (value.Num z) table (tt, tt)))
    (subst (λ z. Runs w w rs rs' result (core.item_answer (store_in w) z (meant w.names v))) same
    (by v (subst (MayUseIn w) (sym e) (got_usable w.names w.globals w.arena w.owner world.own t (value.Num z) table)) gives))
  where
    by : (v : Value) → MayUseIn w v → GivesItem rs rs' k v result → Runs w w rs rs' result (core.item_answer (store_in w) k (meant w.names v))
    by value.Nil used h = gives_runs w w rs rs' (value.Nil ∷ []) result _ h ((tt, tt), tt) refl
    by v used h = gives_runs w w rs rs' (value.Num k ∷ v ∷ []) result _ h ((tt, tt), (used, tt)) refl
