-- No key of a table is nil, and those that are numbers are whole numbers of the language.
use Rattle.std.proofs.Common.{◌≡◌, ℕ, zero, suc, ℤ, Bool, true, false, cond, List, [], ◌∷◌, ◌++◌, Option, None, refl, sym, ◌∙◌, ap, subst}
use Rattle.std.proofs.lemmas.Bool.Decides.{Decides-int_eq}
use Rattle.whole_num.specs.Whole.{IsWhole}
use Rattle.value_model.specs.Pairs as pairs
use Rattle.value_model.specs.declared.value.Value.{Value}
use Rattle.value_model.specs.declared.value.Value.TheVariants as value
use Rattle.value_arena.specs.Tables.{Entries, HasKeys, IsKey, is_nil, same, value_in, with_value}
use Rattle.value_arena.proofs.Sameness.{value_decides}

-- an entry that is appended
pub key_behind : (es : Entries) (key v : Value) → HasKeys es → IsKey key → HasKeys (es ++ (key, v) ∷ [])
key_behind [] key v h k = (k, tt)
key_behind (e ∷ es) key v h k = (h.0, key_behind es key v h.1 k)

-- a value that is replaced
pub keys_written : (es : Entries) (place : ℕ) (v : Value) → HasKeys es → HasKeys (with_value es place v)
keys_written [] place v h = tt
keys_written (e ∷ es) zero v h = (h.0, h.1)
keys_written (e ∷ es) (suc place) v h = (h.0, keys_written es place v h.1)

-- under a number out of range there is nothing
pub none_out_of_range : (es : Entries) (z : ℤ) → HasKeys es → (IsWhole z → ⊥) → value.Nil ≡ value_in es (value.Num z)
unfolding value_in
none_out_of_range [] z h out = refl
none_out_of_range (e ∷ es) z h out = by (same (value.Num z) e.0) refl (none_out_of_range es z h.1 out)
  where
    by : (b : Bool) → same (value.Num z) e.0 ≡ b → value.Nil ≡ pairs.value_under same is_nil value.Nil es (value.Num z) → value.Nil ≡ cond b e.1 (pairs.value_under same is_nil value.Nil es (value.Num z))
    by true m rest = absurd (out (subst IsKey (sym ((value_decides (value.Num z) e.0).0 m)) h.0))
    by false m rest = rest
