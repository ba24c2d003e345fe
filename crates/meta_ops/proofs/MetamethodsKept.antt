-- What a metatable says of values that a script may use means what it says of those that they mean.
use Rattle.std.proofs.Common.{◌≡◌, ℕ, zero, suc, ◌<◌, Bool, true, false, cond, inr, List, [], ◌∷◌, Option, Some, None, length, get_or, slice_get, refl, sym, ◌∙◌, ap, arith}
use Rattle.std.specs.Prelude.{option_map}
use Rattle.byte_text.specs.declared.fixed.StrId.{StrId}
use Rattle.value_model.specs.Metamethods as model
use Rattle.value_model.specs.Owners.{wide}
use Rattle.value_model.specs.Parts.{meant, table_ref}
use Rattle.value_model.specs.Store as store
use Rattle.value_model.specs.Tables.{get}
use Rattle.value_model.specs.Values as m
use Rattle.value_model.specs.Values.{Bytes, kind_of}
use Rattle.value_model.specs.declared.ids.Owner.{Owner}
use Rattle.value_model.specs.declared.ids.TableId.{TableId}
use Rattle.value_model.specs.declared.value.Value.{Value}
use Rattle.value_model.specs.declared.value.Value.TheVariants as value
use Rattle.value_arena.specs.Arenas.{ArenaView, table_at}
use Rattle.luau_tables.specs.Own.{IsOwn, MayUse}
use Rattle.luau_tables.specs.Part.{OfSome, store_of}
use Rattle.luau_tables.specs.declared.globals.Globals.{Globals}
use Rattle.luau_tables.proofs.OwnTables.{get_part, got_usable, meta_part, meta_usable}
use Rattle.meta_ops.specs.OnIds as kept

pub is_function_kept : (texts : List Bytes) (v : Value) → model.is_function (meant texts v) ≡ kept.is_function v
unfolding meant model.is_function
is_function_kept texts (value.Closure f) = refl
is_function_kept texts (value.Native f) = refl
is_function_kept texts (value.Host f) = refl
is_function_kept texts (value.Wrap f) = refl
is_function_kept texts _ = refl

pub kind_kept : (texts : List Bytes) (v : Value) → kind_of (meant texts v) ≡ kept.kind_of v
unfolding meant kind_of
kind_kept texts value.Nil = refl
kind_kept texts (value.Bool b) = refl
kind_kept texts (value.Num z) = refl
kind_kept texts (value.Str x) = refl
kind_kept texts (value.Table t) = refl
kind_kept texts (value.Thread t) = refl
kind_kept texts _ = refl

-- the number of a text is below their number
pub number_below : (texts : List Bytes) (i : ℕ) (t : Bytes) → slice_get texts i ≡ Some t → i < length texts
number_below [] i t e = absurd (cc)
number_below (x ∷ xs) zero t e = omega arith
number_below (x ∷ xs) (suc i) t e = omega (arith, number_below xs i t e)

pub text_is : (texts : List Bytes) (i : ℕ) (t : Bytes) → slice_get texts i ≡ Some t → get_or texts i [] ≡ t
text_is [] i t e = absurd (cc)
text_is (x ∷ xs) zero t e = cc
text_is (x ∷ xs) (suc i) t e = text_is xs i t e

module _ (texts : List Bytes) (g : Globals) (a : ArenaView) (w : Owner) (own : IsOwn texts g a w) where
  abbrev part : store.Store
  part = store_of texts g a w

  abbrev May : Value → Type 0
  May v = MayUse texts a w v

  pub strings_usable : MayUse texts a w (value.Table g.string_meta)
  strings_usable = ((inr (ap wide own.globals.string_meta_owner), own.globals.string_meta), tt)

  -- ---- what a metatable says may be used

  said_by_usable : (meta : Option TableId) (name : StrId) → OfSome (λ m. May (value.Table m)) meta → May (kept.said_by a meta name)
  said_by_usable None name h = (tt, tt)
  said_by_usable (Some t) name h = got_usable texts g a w own t (value.Str name) h

  pub metamethod_usable : (v : Value) (name : StrId) → MayUse texts a w v → MayUse texts a w (kept.metamethod a g v name)
  unfolding kept.metamethod
  metamethod_usable (value.Table t) name h = said_by_usable (table_at a t).meta name (meta_usable texts g a w own t h)
  metamethod_usable (value.Str x) name h = got_usable texts g a w own g.string_meta (value.Str name) strings_usable
  metamethod_usable _ name h = (tt, tt)

  pub of_two_usable : (name : StrId) (v u : Value) → MayUse texts a w v → MayUse texts a w u → MayUse texts a w (kept.metamethod_of_two a g v u name)
  of_two_usable name v u h k = by (kept.is_nil (kept.metamethod a g v name))
    where
      by : (b : Bool) → May (cond b (kept.metamethod a g u name) (kept.metamethod a g v name))
      by true = metamethod_usable u name k
      by false = metamethod_usable v name h

  -- ---- and it means what the part says

  module _ (name : StrId) (bytes : Bytes) (named : slice_get texts name.0 ≡ Some bytes) where
    said_by_table_part : (t : TableId) → May (value.Table t) →
        get (store.table_at part (table_ref t)) (m.Text bytes) ≡ meant texts (kept.said_by_table a t name)
    unfolding meant
    said_by_table_part t h =
        ap (λ b. get (store.table_at part (table_ref t)) (m.Text b)) (sym (text_is texts name.0 bytes named))
        ∙ get_part texts g a w own t (value.Str name) h (tt, number_below texts name.0 bytes named)

    said_by_part : (meta : Option TableId) → OfSome (λ m. May (value.Table m)) meta →
        model.said_by part (option_map table_ref meta) bytes ≡ meant texts (kept.said_by a meta name)
    unfolding meant
    said_by_part None h = refl
    said_by_part (Some t) h = said_by_table_part t h

    pub metamethod_part : (v : Value) → MayUse texts a w v →
        model.metamethod (store_of texts g a w) (meant texts v) bytes ≡ meant texts (kept.metamethod a g v name)
    unfolding meant model.metamethod kept.metamethod store_of
    metamethod_part (value.Table t) h =
        ap (λ meta. model.said_by (store_of texts g a w) meta bytes) (meta_part texts g a w own t h)
        ∙ said_by_part (table_at a t).meta (meta_usable texts g a w own t h)
    metamethod_part (value.Str x) h = said_by_table_part g.string_meta strings_usable
    metamethod_part _ h = refl

    pub of_two_part : (v u : Value) → MayUse texts a w v → MayUse texts a w u →
        model.metamethod_of_two (store_of texts g a w) (meant texts v) (meant texts u) bytes ≡ meant texts (kept.metamethod_of_two a g v u name)
    unfolding meant
    of_two_part v u h k =
        ap (λ x. model.either x (model.metamethod part (meant texts u) bytes)) (metamethod_part v h)
        ∙ ap (λ y. model.either (meant texts (kept.metamethod a g v name)) y) (metamethod_part u k)
        ∙ by (kept.metamethod a g v name) (kept.metamethod a g u name)
      where
        by : (x y : Value) → model.either (meant texts x) (meant texts y) ≡ meant texts (cond (kept.is_nil x) y x)
        by value.Nil y = refl
        by _ y = refl
