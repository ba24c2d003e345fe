-- Tables whose metatable says that it is protected.
use Rattle.std.proofs.Common.{◌≡◌, false, not, [], Option, Some, None, sym, ◌∙◌, ap, subst}
use Rattle.std.proofs.lemmas.Option.{get_or_from_slice_get, slice_get_within}
use Rattle.std.specs.Prelude.{codes, option_map}
use Rattle.value_model.specs.CoreRows as core
use Rattle.value_model.specs.Metamethods.{said_by}
use Rattle.value_model.specs.Parts.{meant, table_ref}
use Rattle.value_model.specs.Store as store
use Rattle.value_model.specs.Tables as tables
use Rattle.value_model.specs.Values as m
use Rattle.value_model.specs.declared.ids.TableId.{TableId}
use Rattle.value_model.specs.declared.value.Value.{Value}
use Rattle.value_model.specs.declared.value.Value.TheVariants as value
use Rattle.value_arena.specs.Arenas.{table_at}
use Rattle.value_arena.specs.Tables.{is_nil}
use Rattle.luau_tables.specs.Part.{OfSome}
use Rattle.luau_tables.specs.Rules as rule
use Rattle.luau_tables.specs.Worlds.{IsWorld, MayUseIn, store_in}
use Rattle.luau_tables.specs.declared.globals.LibWorld.{LibWorld}
use Rattle.luau_tables.proofs.OwnTables.{get_part, meta_part, meta_usable}
use Rattle.luau_tables.proofs.Sameness.{nil_kept}

module _ (w : LibWorld) (world : IsWorld w) (t : TableId) (may : MayUseIn w (value.Table t)) where
  meta_is : (o : Option TableId) → o ≡ (table_at w.arena t).meta → (store.table_at (store_in w) (table_ref t)).meta ≡ option_map table_ref o
  meta_is o e = meta_part w.names w.globals w.arena w.owner world.own t may ∙ ap (option_map table_ref) (sym e)

  pub protected_none : None ≡ (table_at w.arena t).meta → false ≡ core.is_protected (store_in w) (table_ref t)
  protected_none e = sym (ap (λ o. not (tables.is_nil (said_by (store_in w) o (codes "__metatable")))) (meta_is None e))

  pub meta_use : (m : TableId) → Some m ≡ (table_at w.arena t).meta → MayUseIn w (value.Table m)
  meta_use m e = subst (OfSome (λ m. MayUseIn w (value.Table m))) (sym e) (meta_usable w.names w.globals w.arena w.owner world.own t may)

  said_is : (u : TableId) → MayUseIn w (value.Table u) → said_by (store_in w) (Some (table_ref u)) (codes "__metatable")
      ≡ meant w.names (rule.get (table_at w.arena u) (value.Str w.globals.meta.metatable))
  unfolding meant
  said_is u may_use =
      let at = world.own.globals.names.metatable in
      ap (λ bs. tables.get (store.table_at (store_in w) (table_ref u)) (m.Text bs))
      (sym (get_or_from_slice_get w.names w.globals.meta.metatable.0 (codes "__metatable") [] at))
      ∙ get_part w.names w.globals w.arena w.owner world.own u (value.Str w.globals.meta.metatable) may_use
      (tt, slice_get_within w.names w.globals.meta.metatable.0 (codes "__metatable") at)

  pub protected_some : (u : TableId) (v : Value) → Some u ≡ (table_at w.arena t).meta →
      v ≡ rule.get (table_at w.arena u) (value.Str w.globals.meta.metatable) → not (is_nil v) ≡ core.is_protected (store_in w) (table_ref t)
  protected_some u v e is =
      ap not (sym (nil_kept w.names v))
      ∙ ap (λ v. not (tables.is_nil (meant w.names v))) is
      ∙ ap (λ y. not (tables.is_nil y)) (sym (said_is u (meta_use u e)))
      ∙ sym (ap (λ o. not (tables.is_nil (said_by (store_in w) o (codes "__metatable")))) (meta_is (Some u) e))
