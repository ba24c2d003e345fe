-- Metatables and what they say, as they are kept and as they are meant.
use Rattle.std.proofs.Common.{◌≡◌, ◌<◌, inr, [], length, slice_get, Option, Some, None, refl, sym, ◌∙◌, ap, subst}
use Rattle.std.proofs.lemmas.Option.{get_or_from_slice_get}
use Rattle.std.specs.Prelude.{option_map}
use Rattle.value_model.specs.Owners.{wide}
use Rattle.byte_text.specs.declared.fixed.StrId.{StrId}
use Rattle.value_model.specs.CoreRows as core
use Rattle.value_model.specs.Metamethods.{said_by, metamethod}
use Rattle.value_model.specs.Parts.{bytes_at, meant, table_ref}
use Rattle.value_model.specs.Values as m
use Rattle.value_model.specs.Values.{Bytes}
use Rattle.value_model.specs.declared.ids.TableId.{TableId}
use Rattle.value_model.specs.declared.value.Value.{Value}
use Rattle.value_model.specs.declared.value.Value.TheVariants as value
use Rattle.value_arena.specs.Arenas.{table_at}
use Rattle.luau_tables.specs.Part.{OfSome, store_of}
use Rattle.luau_tables.specs.Rules as rule
use Rattle.luau_tables.specs.Worlds.{IsWorld, MayUseIn, store_in}
use Rattle.luau_tables.specs.declared.globals.LibWorld.{LibWorld}
use Rattle.luau_tables.proofs.OwnTables.{get_part, got_usable, meta_part, meta_usable}

module _ (w : LibWorld) (world : IsWorld w) where
  -- ---- the metatable of a value

  strings_meta : table_ref w.globals.string_meta ≡ (store_in w).globals.string_meta
  unfolding store_of
  strings_meta = refl

  pub table_meta : (v : Value) (t : TableId) (meta : Option TableId) → v ≡ value.Table t → MayUseIn w v → meta ≡ (table_at w.arena t).meta →
      option_map table_ref meta ≡ core.metatable_of (store_in w) (meant w.names v)
  unfolding meant
  table_meta v t meta e h k =
      ap (option_map table_ref) k
      ∙ sym (meta_part w.names w.globals w.arena w.owner world.own t (subst (MayUseIn w) e h))
      ∙ ap (λ v. core.metatable_of (store_in w) (meant w.names v)) (sym e)

  pub table_meta_usable : (v : Value) (t : TableId) (meta : Option TableId) → v ≡ value.Table t → MayUseIn w v → meta ≡ (table_at w.arena t).meta → OfSome (λ m. MayUseIn w (value.Table m)) meta
  table_meta_usable v t meta e h k = subst (OfSome (λ m. MayUseIn w (value.Table m))) (sym k) (meta_usable w.names w.globals w.arena w.owner world.own t (subst (MayUseIn w) e h))

  pub text_meta : (v : Value) (x : StrId) → v ≡ value.Str x → Some (table_ref w.globals.string_meta) ≡ core.metatable_of (store_in w) (meant w.names v)
  unfolding meant
  text_meta v x e = ap Some strings_meta ∙ ap (λ v. core.metatable_of (store_in w) (meant w.names v)) (sym e)

  -- nobody's table may be used by all
  pub text_meta_usable : MayUseIn w (value.Table w.globals.string_meta)
  text_meta_usable = ((inr (ap wide world.own.globals.string_meta_owner), world.own.globals.string_meta), tt)

  pub no_meta : (v : Value) → ((t : TableId) → v ≡ value.Table t → ⊥) → ((x : StrId) → v ≡ value.Str x → ⊥) → None ≡ core.metatable_of (store_in w) (meant w.names v)
  unfolding meant
  no_meta (value.Table t) n s = absurd (n t refl)
  no_meta (value.Str x) n s = absurd (s x refl)
  no_meta v n s = refl

  -- ---- what a metatable says

  pub some_says : (m : TableId) (meta : Option TableId) (name : StrId) (v : Value) → meta ≡ Some m → MayUseIn w (value.Table m) → name.0 < length w.names → v ≡ rule.get (table_at w.arena m) (value.Str name) →
      meant w.names v ≡ said_by (store_in w) (option_map table_ref meta) (bytes_at w.names name.0)
  unfolding meant
  some_says m meta name v e h k g =
      ap (meant w.names) g
      ∙ sym (get_part w.names w.globals w.arena w.owner world.own m (value.Str name) h (tt, k))
      ∙ ap (λ o. said_by (store_in w) (option_map table_ref o) (bytes_at w.names name.0)) (sym e)

  pub says_usable : (m : TableId) (key v : Value) → MayUseIn w (value.Table m) → v ≡ rule.get (table_at w.arena m) key → MayUseIn w v
  says_usable m key v h g = subst (MayUseIn w) (sym g) (got_usable w.names w.globals w.arena w.owner world.own m key h)

  pub none_says : (meta : Option TableId) (name : Bytes) → meta ≡ None → meant w.names value.Nil ≡ said_by (store_in w) (option_map table_ref meta) name
  unfolding meant
  none_says meta name e = ap (λ o. said_by (store_in w) (option_map table_ref o) name) (sym e)

  -- by the number of the name
  pub says_name : (meta : Option TableId) (name : StrId) (bs : Bytes) (v : Value) → slice_get w.names name.0 ≡ Some bs → meant w.names v ≡ said_by (store_in w) (option_map table_ref meta) (bytes_at w.names name.0) →
      meant w.names v ≡ said_by (store_in w) (option_map table_ref meta) bs
  says_name meta name bs v at h = h ∙ ap (said_by (store_in w) (option_map table_ref meta)) (get_or_from_slice_get w.names name.0 bs [] at)

  -- the metamethod of a value is what its metatable says
  metamethod_is : (v : m.Value) (name : Bytes) → said_by (store_in w) (core.metatable_of (store_in w) v) name ≡ metamethod (store_in w) v name
  unfolding metamethod
  metamethod_is (m.Table t) name = refl
  metamethod_is (m.Text bs) name = refl
  metamethod_is _ name = refl

  pub says_metamethod : (v : Value) (meta : Option TableId) (name : Bytes) (h : Value) → option_map table_ref meta ≡ core.metatable_of (store_in w) (meant w.names v) → meant w.names h ≡ said_by (store_in w) (option_map table_ref meta) name →
      meant w.names h ≡ metamethod (store_in w) (meant w.names v) name
  says_metamethod v meta name h e k = k ∙ ap (λ o. said_by (store_in w) o name) e ∙ metamethod_is (meant w.names v) name
